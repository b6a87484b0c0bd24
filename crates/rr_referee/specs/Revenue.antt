-- What the words of a sheet earn.
use Rattle.std.specs.Prelude.{ℕ, Option, None, Some, List, [], ◌∷◌, sum_by}
use Rattle.rr_routes.specs.declared.net.Node.{Node}
use Rattle.rr_routes.specs.declared.net.Node.TheVariants.{Centre}
use Rattle.rr_routes.specs.Net.{Net}
use Rattle.rr_routes.specs.Routes.{centres, worth}
use Rattle.rr_routes.specs.declared.sheets.sheet.TrainWord.{TrainWord}
use Rattle.rr_referee.specs.Sheets.{links_of}
use Rattle.rr_referee.specs.Tests.{onward, start_of}

-- the nodes along the links from that centre on; none where there is no centre to begin at
abbrev pub course_from : Net → List ℕ → Option ℕ → List Node
course_from net links None = []
course_from net links (Some centre) = Centre centre ∷ onward net (Centre centre) links

-- the nodes along the links of a route
abbrev pub course_of : Net → List ℕ → List Node
course_of net links = course_from net links (start_of net links)

-- what the centres along the links that a word names are worth together
abbrev pub earned_on : Net → TrainWord → ℕ
earned_on net word = worth net (centres (course_of net (links_of word)))

-- what the words of a sheet earn together
unfoldable pub revenue_of : Net → List TrainWord → ℕ
revenue_of net sheet = sum_by (earned_on net) sheet

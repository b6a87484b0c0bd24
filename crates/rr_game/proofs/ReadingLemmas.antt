-- A game's bytes as they are read: the players, the views, the layout, and the counts, each by itself.
use Rattle.std.specs.Prelude.{ℤ}
use Rattle.std.proofs.Common.{◌≡◌, ◌≢◌, ℕ, List, ◌++◌, sym, ◌∙◌, ap, append_assoc}
use Rattle.rr_words.specs.Spelling.Form.{Form, number_form, pair_form, signed_form}
use Rattle.rr_turns.specs.Bytes.{ends_form}
use Rattle.rr_code.specs.Bytes.{players_form}
use Rattle.rr_books.specs.declared.parts.BooksParts.{BooksParts}
use Rattle.rr_books.specs.Parts.{books_form}
use Rattle.rr_rounds.specs.declared.bids.parts.BiddingParts.{BiddingParts}
use Rattle.rr_rounds.specs.Bids.Parts.{bidding_form}
use Rattle.rr_rounds.specs.declared.parts.RoundsParts.{RoundsParts}
use Rattle.rr_rounds.specs.Parts.{rounds_form}
use Rattle.rr_market.specs.declared.parts.MarketParts.{MarketParts}
use Rattle.rr_market.specs.Parts.{market_form}
use Rattle.rr_market.specs.declared.operations.parts.OperationsParts.{OperationsParts}
use Rattle.rr_market.specs.Operations.Parts.{operations_form}
use Rattle.rr_desk.specs.Layout.Layout.{Placed}
use Rattle.rr_desk.specs.Layout.Bytes.{layout_form}
use Rattle.rr_desk.specs.Position.Parts.{position_form}
use Rattle.rr_game.specs.declared.parts.Parts.{Parts}
use Rattle.rr_game.specs.Parts.{game_form}

-- bytes begin with no value of a form
abbrev pub NoneOf : {A : Type 0} → Form A → List ℕ → Type 0
NoneOf {A = A} f bytes = (value : A) (rest : List ℕ) → f.Fits value → bytes ≢ f.spelling value ++ rest

-- where the first of two values doesn't stand, the two don't
none_first : {A B : Type 0} (f : Form A) (g : Form B) (bytes : List ℕ) → NoneOf f bytes → NoneOf (pair_form f g) bytes
none_first f g bytes none value rest fits = λ same.
    none value.0 (g.spelling value.1 ++ rest) fits.0 (same ∙ append_assoc (f.spelling value.0) (g.spelling value.1) rest)

-- nor do they where the second doesn't stand behind the first
none_behind : {A B : Type 0} (f : Form A) (g : Form B) (first : A) (bytes behind : List ℕ) → f.Fits first → bytes ≡ f.spelling first ++ behind
    → NoneOf g behind → NoneOf (pair_form f g) bytes
none_behind f g first bytes behind fit begins none value rest fits = λ same.
    let one = f.one_way first value.0 behind (g.spelling value.1 ++ rest) fit fits.0 (sym begins ∙ same ∙ append_assoc (f.spelling value.0) (g.spelling value.1) rest) in
    none value.1 rest fits.1 one.1

-- the values as they are read
abbrev pub Views : Type 0
Views = BooksParts × (BiddingParts × (MarketParts × (RoundsParts × OperationsParts)))

abbrev pub views_form : Form Views
views_form = pair_form books_form (pair_form bidding_form (pair_form market_form (pair_form rounds_form operations_form)))

abbrev pub Counts : Type 0
Counts = ℕ × (ℤ × (ℕ × List ℕ))

abbrev pub counts_form : Form Counts
counts_form = pair_form (number_form 4) (pair_form signed_form (pair_form (number_form 4) ends_form))

abbrev pub Flat : Type 0
Flat = List (List ℕ) × (Views × (Placed × Counts))

abbrev pub flat_form : Form Flat
flat_form = pair_form players_form (pair_form views_form (pair_form layout_form counts_form))

abbrev pub views_of : Parts → Views
views_of p =
    let position = p.standing.position in
    (position.books, (position.bidding, (position.market, (position.rounds, position.operations))))

abbrev pub counts_of : Parts → Counts
counts_of p = (p.standing.position.entries, (p.standing.revenue.0, (p.played, p.ends)))

abbrev pub flat : Parts → Flat
flat p = (p.players, (views_of p, (p.standing.position.layout, counts_of p)))

-- the same bytes, grouped in another way
regroup : (pl b bi m r o l e v n d : List ℕ)
    → pl ++ (((b ++ (bi ++ (m ++ (r ++ (o ++ (l ++ e)))))) ++ v) ++ (n ++ d)) ≡ pl ++ ((b ++ (bi ++ (m ++ (r ++ o)))) ++ (l ++ (e ++ (v ++ (n ++ d)))))
regroup pl b bi m r o l e v n d = simp append_assoc

same_bytes : (p : Parts) → game_form.spelling p ≡ flat_form.spelling (flat p)
same_bytes p =
    let position = p.standing.position in
    regroup (players_form.spelling p.players) (books_form.spelling position.books) (bidding_form.spelling position.bidding) (market_form.spelling position.market)
    (rounds_form.spelling position.rounds) (operations_form.spelling position.operations) (layout_form.spelling position.layout) ((number_form 4).spelling position.entries)
    (signed_form.spelling p.standing.revenue.0) ((number_form 4).spelling p.played) (ends_form.spelling p.ends)

flat_fits : (p : Parts) → game_form.Fits p → flat_form.Fits (flat p)
flat_fits p fits =
    let standing = fits.1.0 in
    let books = standing.0 in
    let market = books.1.1 in
    let operations = market.1.1 in
    let layout = operations.1 in
    (fits.0, ((books.0, (books.1.0, (market.0, (market.1.0, operations.0)))), (layout.0, (layout.1, (standing.1, fits.1.1)))))

none_flat : (bytes : List ℕ) → NoneOf flat_form bytes → NoneOf game_form bytes
none_flat bytes none p rest fits = λ same.
    none (flat p) rest (flat_fits p fits) (same ∙ ap (λ (z : List ℕ). z ++ rest) (same_bytes p))

-- no game's values stand there where one of the four isn't read
pub none_players : (bytes : List ℕ) → NoneOf players_form bytes → NoneOf game_form bytes
none_players bytes none = none_flat bytes (none_first players_form (pair_form views_form (pair_form layout_form counts_form)) bytes none)

pub none_views : (players : List (List ℕ)) (bytes one : List ℕ) → players_form.Fits players × (bytes ≡ players_form.spelling players ++ one)
    → NoneOf views_form one → NoneOf game_form bytes
none_views players bytes one read none =
    let rest = pair_form layout_form counts_form in
    none_flat bytes (none_behind players_form (pair_form views_form rest) players bytes one read.0 read.1 (none_first views_form rest one none))

pub none_layout : (players : List (List ℕ)) (views : Views) (bytes one two : List ℕ)
    → players_form.Fits players × (bytes ≡ players_form.spelling players ++ one) → views_form.Fits views × (one ≡ views_form.spelling views ++ two)
    → NoneOf layout_form two → NoneOf game_form bytes
none_layout players views bytes one two read next none =
    let rest = pair_form layout_form counts_form in
    none_flat bytes (none_behind players_form (pair_form views_form rest) players bytes one read.0 read.1
    (none_behind views_form rest views one two next.0 next.1 (none_first layout_form counts_form two none)))

pub none_counts : (players : List (List ℕ)) (views : Views) (layout : Placed) (bytes one two three : List ℕ)
    → players_form.Fits players × (bytes ≡ players_form.spelling players ++ one) → views_form.Fits views × (one ≡ views_form.spelling views ++ two)
    → layout_form.Fits layout × (two ≡ layout_form.spelling layout ++ three)
    → NoneOf counts_form three → NoneOf game_form bytes
none_counts players views layout bytes one two three read next third none =
    let rest = pair_form layout_form counts_form in
    none_flat bytes (none_behind players_form (pair_form views_form rest) players bytes one read.0 read.1
    (none_behind views_form rest views one two next.0 next.1 (none_behind layout_form counts_form layout two three third.0 third.1 none)))

-- the values of the four
abbrev pub parts_from : List (List ℕ) → Views → Placed → Counts → Parts
parts_from players views layout counts = record {
  players = players;
  standing = record {
    position = record {
      books = views.0;
      bidding = views.1.0;
      market = views.1.1.0;
      rounds = views.1.1.1.0;
      operations = views.1.1.1.1;
      layout = layout;
      entries = counts.0;
    };
    revenue = record { 0 = counts.1.0 };
  };
  played = counts.1.1.0;
  ends = counts.1.1.1;
}

behind_one_another : (a b c d left : List ℕ) → (a ++ (b ++ (c ++ d))) ++ left ≡ a ++ (b ++ (c ++ (d ++ left)))
behind_one_another a b c d left = simp append_assoc

-- and where all four are read, they are a game's
pub all_read : (players : List (List ℕ)) (views : Views) (layout : Placed) (counts : Counts) (bytes one two three left : List ℕ)
    → players_form.Fits players × (bytes ≡ players_form.spelling players ++ one) → views_form.Fits views × (one ≡ views_form.spelling views ++ two)
    → layout_form.Fits layout × (two ≡ layout_form.spelling layout ++ three) → counts_form.Fits counts × (three ≡ counts_form.spelling counts ++ left)
    → game_form.Fits (parts_from players views layout counts) × (bytes ≡ game_form.spelling (parts_from players views layout counts) ++ left)
all_read players views layout counts bytes one two three left first second third fourth =
    let p = parts_from players views layout counts in
    let a = players_form.spelling players in
    let b = views_form.spelling views in
    let c = layout_form.spelling layout in
    let d = counts_form.spelling counts in
    let own = second.0 in
    let operations = own.1.1.1 in
    let position : position_form.Fits p.standing.position = (own.0, (own.1.0, (own.1.1.0, (operations.0, (operations.1, (third.0, fourth.0.0)))))) in
    let joined : bytes ≡ (a ++ (b ++ (c ++ d))) ++ left =
    first.1 ∙ ap (λ (z : List ℕ). a ++ z) (second.1 ∙ ap (λ (z : List ℕ). b ++ z) (third.1 ∙ ap (λ (z : List ℕ). c ++ z) fourth.1)) ∙ sym (behind_one_another a b c d left) in
    ((first.0, ((position, fourth.0.1.0), fourth.0.1.1)), joined ∙ ap (λ (z : List ℕ). z ++ left) (sym (same_bytes p)))

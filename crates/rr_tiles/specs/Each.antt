-- Reading one thing after another.
use Rattle.std.specs.Prelude.{List, Option, Some, option_and_then, fold}

-- what each item in turn is added to, or nothing where one of them may not be added
unfoldable pub added : {X Y : Type 0} → (Y → X → Option Y) → Y → List X → Option Y
added add start items = fold (λ so_far item. option_and_then (λ y. add y item) so_far) (Some start) items

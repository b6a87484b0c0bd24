use Rattle.std.proofs.Common.{◌≡◌, take}
use Rattle.rr_routes.specs.Reachability.Places.{AreMarkedItems, marked_of}
use Rattle.rr_routes.proofs.reachability.marking.marked_items.Given as goal

abbrev pub invariant-loop-place : goal.invariant-loop-place
invariant-loop-place g l = (l.marked.items ≡ marked_of (take l.place l.items) l.marks) × AreMarkedItems l.items l.marks l.place l.marked.items

-- What a value was made of.
use Rattle.std.proofs.Common.{◌≡◌, refl, Bool, true, false, if◌then◌else◌, Option, None, Some, option_map, option_and_then}

pub and_then-some : {X Y : Type 0} (f : X → Option Y) (o : Option X) (y : Y) → option_and_then f o ≡ Some y → (x : X) × (o ≡ Some x) × (f x ≡ Some y)
and_then-some f None y is = absurd (cc)
and_then-some f (Some x) y is = (x, refl, is)

pub map-some : {X Y : Type 0} (f : X → Y) (o : Option X) (y : Y) → option_map f o ≡ Some y → (x : X) × (o ≡ Some x) × (f x ≡ y)
map-some f None y is = absurd (cc)
map-some f (Some x) y is = let same : f x ≡ y = cc in (x, refl, same)

-- kept unless a test holds
pub unless-some : {X : Type 0} (test : Bool) (x y : X) → (if test then None else Some x) ≡ Some y → (test ≡ false) × (x ≡ y)
unless-some true x y is = absurd (cc)
unless-some false x y is = let same : x ≡ y = cc in (refl, same)

-- kept if a test holds
pub if-some : {X : Type 0} (test : Bool) (o : Option X) (y : X) → (if test then o else None) ≡ Some y → (test ≡ true) × (o ≡ Some y)
if-some true o y is = (refl, is)
if-some false o y is = absurd (cc)

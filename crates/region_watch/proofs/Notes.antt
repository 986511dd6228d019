-- The first stray access after one more access.
use Rattle.std.proofs.Common.{◌≡◌, Bool, true, refl}
use Rattle.std.specs.Prelude.{Option, Some, None}
use Rattle.byte_words.specs.declared.access.Access.{Access}
use Rattle.region_watch.specs.Strays.{stray_after}

-- one that is allowed isn't noted
pub stray_after_allowed : (f : Option Access) (access : Access) → stray_after f access true ≡ f
stray_after_allowed (Some first) access = refl
stray_after_allowed None access = refl

pub stray_after_own : (f : Option Access) (access : Access) (allowed : Bool) → allowed ≡ true → f ≡ stray_after f access allowed
stray_after_own (Some first) access allowed is = refl
stray_after_own None access allowed is = rw is refl

-- What the code found is what reading finds.
use Rattle.std.proofs.Common.{◌≡◌, Option, Some, None}
use Rattle.items_text.specs.Reading.{Finds}

pub found_some : {X Y : Type 0} (view : X → Y) (o : Option X) (read : Option Y) (x : X) → o ≡ Some x → Finds view o read → read ≡ Some (view x)
found_some view o read x is h = rw is at h

pub found_none : {X Y : Type 0} (view : X → Y) (o : Option X) (read : Option Y) → o ≡ None → Finds view o read → read ≡ None
found_none view o read is h = rw is at h

-- Which bytes of one array a plain bus lets write.
use Rattle.std.specs.Prelude.{ℕ, Bool, true}

-- every byte may be written; no access reaches one above 2^32
abbrev pub writable_of : ℕ → Bool
writable_of addr = true

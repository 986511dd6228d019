-- What a call writes into its caller's memory, range by range.
use Rattle.std.specs.Prelude.{◌≡◌, ℕ, ◌^◌, ◌<◌, Bool, true, if◌then◌else◌, List, [], ◌∷◌, length, map, sum, Option, Some, None, Ok}
use Rattle.byte_words.specs.declared.access.Access.{Access}
use Rattle.byte_words.specs.declared.access.AccessKind.TheVariants.{Call}
use Rattle.call_log.specs.Notes.{GotRange}
use Rattle.call_log.specs.Sent.{Span}
use Rattle.mmap_rules.specs.declared.page_owner.PageOwner.{PageOwner}
use Rattle.mmap_rules.specs.Space.{may_use}
use Rattle.mmap_rules.specs.Owners.{owns}
use Rattle.region_watch.specs.Private.{own_bytes, frozen}
use Rattle.flat_loader.specs.Alone.{put_got}

-- the first range that may not be written
abbrev pub stray_range : (ℕ → Bool) → List GotRange → Option Span
stray_range w [] = None
stray_range w (got ∷ gots) =
    if may_use w got.addr (length got.bytes) then stray_range w gots else Some (record { addr = got.addr; len = length got.bytes })

-- the access of a call
abbrev pub access_at : ℕ → Span → Access
access_at pc span = record { pc = pc; addr = span.addr; len = span.len; kind = Call }

-- a range that an access can have: some bytes, and fewer than there are addresses
abbrev pub IsRange : GotRange → Type 0
IsRange got = (0 < length got.bytes) × (length got.bytes < 2 ^ 32)

-- how many bytes are written
abbrev pub got_len : List GotRange → ℕ
got_len gots = sum (map (λ w. length w.bytes) gots)

-- all ranges are written, and what may not be written stays
pub record Put (table : List PageOwner) (old new : List ℕ) (gots : List GotRange) : Type 0 where
  pub put : put_got (own_bytes table old) (owns table true) gots ≡ Ok (own_bytes table new)
  pub frozen : frozen table new ≡ frozen table old
  pub len : length new ≡ length old

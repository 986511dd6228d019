-- What holds of a world before its first program, and is kept where a program begins, holds at boot.
use Rattle.std.proofs.Common.{◌≡◌, ℕ, Bool, true, false, List, [], ◌∷◌, Option, Some, None, Result, Ok, Err, subst}
use Rattle.flat_loader.specs.Original.{block_pages}
use Rattle.flat_loader.specs.Frame.{frame_fits}
use Rattle.flat_loader.specs.Begin.{Loading}
use Rattle.machine_world.specs.World.{Rest, World}
use Rattle.machine_world.specs.Free.{free}
use Rattle.machine_world.specs.Boot.{StartLine, BootFault, Found, found, start_path, begun, address_of, taken, placed, fitting, located, started, then_started, all_started, empty_world, boot}

module _ (P : World → Type 0) (begins : (w : World) (index : ℕ) (l : Loading) → P w → P (begun w index l)) where
  abbrev Behind : Result World BootFault → Type 0
  Behind (Ok w) = P w
  Behind (Err fault) = Unit {0}

  module _ (w : World) (h : P w) (s : StartLine) where
    by_placed : (f : Found) (page : Option ℕ) → Behind (placed w s f page)
    by_placed f None = tt
    by_placed f (Some page) = begins w f.index (record { original = f.original; block = address_of page; args = s.args; env = [] }) h

    by_fitting : (f : Found) (fits : Bool) → Behind (fitting w s f fits)
    by_fitting f true = by_placed f (taken w (block_pages f.original) (free w))
    by_fitting f false = tt

    by_located : (o : Option Found) → Behind (located w s o)
    by_located None = tt
    by_located (Some f) = by_fitting f (frame_fits f.original s.args [])

    by_started : Behind (started w s)
    unfolding started
    by_started = by_located (found w.rest (start_path s))

  by_all : (ss : List StartLine) (w : World) → P w → Behind (all_started w ss)
  unfolding all_started
  by_all [] w h = h
  by_all (s ∷ ss) w h = on (started w s) (by_started w h s) (λ v holds. by_all ss v holds)
    where
      on : (r : Result World BootFault) → Behind r → ((v : World) → P v → Behind (all_started v ss)) → Behind (then_started r (λ now. all_started now ss))
      on (Ok v) holds more = more v holds
      on (Err fault) holds more = tt

  pub by_boots : (rest : Rest) (starts : List StartLine) (w : World) → P (empty_world rest) → boot rest starts ≡ Ok w → P w
  unfolding boot
  by_boots rest starts w h is = subst Behind is (by_all starts (empty_world rest) h)

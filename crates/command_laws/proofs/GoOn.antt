-- A run that goes on, by the law that it is the run of private spaces up to its first stray access.
use Rattle.std.proofs.Common.{◌≡◌, ◌≢◌, ℕ, List, Option, Some, None, Result, Ok, Err, refl, sym, ap, subst, ◌∙◌}
use Rattle.byte_words.specs.ByteMap.{Bytes}
use Rattle.byte_words.specs.declared.access.Access.{Access}
use Rattle.call_log.specs.Sent.{Span, read_span}
use Rattle.mmap_rules.specs.Space.{own_in}
use Rattle.region_watch.specs.Private.{only}
use Rattle.vfork_exec.specs.Keyed.{find}
use Rattle.machine_world.specs.World.{LiveSpace, Process, World, pid_of, id_of}
use Rattle.machine_world.specs.Turns.{End, Walk, all_ended, stuck, out_of_quanta, stray_at, log_full}
use Rattle.memory_world.specs.Physical.{Physical, WalkIn}
use Rattle.memory_world.proofs.Sub.{span_sub}
use Rattle.memory_world.proofs.InMemory.{space_shows}
use Rattle.memory_world.proofs.Moves.{found_is_shown}
use Rattle.go_on_laws.specs.Alike.{Stands}
use Rattle.go_on_laws.specs.Laws.{EndsAlike, GoesPast, GoesAlike}
use Rattle.flat_machine.specs.OwnBytes.{read_or_none, bytes_in, bytes_of, own_bytes, bytes_for, memory_bytes}
use Rattle.manifest_text.specs.declared.manifest.Dump.{Dump}
use Rattle.command_laws.specs.Beside.{GoesOnWell}

-- what is read of own bytes is read of memory
read_on : (own : ℕ → _) (m : Bytes) (span : Span) (bytes : List ℕ) → read_or_none (read_span (only own m) span) ≡ Some bytes → read_or_none (read_span m span) ≡ Some bytes
read_on own m span bytes is = found (read_span (only own m) span) refl is
  where
    found : (r : Result (List ℕ) Span) → read_span (only own m) span ≡ r → read_or_none r ≡ Some bytes → read_or_none (read_span m span) ≡ Some bytes
    found (Ok read) same is = rw (span_sub own m span read same) is
    found (Err stray) same is = absurd cc

module _ (w : World) (p : Physical) (stands : Stands w p) (d : Dump) (bytes : List ℕ) where
  shown_in : (q : Process) (o : Option LiveSpace) → find pid_of d.pid p.world.procs ≡ Some q → find id_of q.space p.world.spaces ≡ o → bytes_in d.addr d.len o ≡ Some bytes → bytes_for p d.addr d.len (Some q) ≡ Some bytes
  shown_in q None lives none is = absurd cc
  shown_in q (Some s) lives has is =
      let shows : s.space.bytes ≡ only (own_in s.space.maps) p.memory = space_shows p.memory s (found_is_shown p d.pid q s lives has stands.shown) in
      let span : Span = record { addr = d.addr; len = d.len } in
      read_on (own_in s.space.maps) p.memory span bytes (ap (λ (m : Bytes). read_or_none (read_span m span)) (sym shows) ∙ is)

  shown_of : (o : Option Process) → find pid_of d.pid p.world.procs ≡ o → bytes_of p.world d.addr d.len o ≡ Some bytes → bytes_for p d.addr d.len o ≡ Some bytes
  shown_of None none is = absurd cc
  shown_of (Some q) lives is = shown_in q (find id_of q.space p.world.spaces) lives refl is

  pub shown_alike : own_bytes w d.pid d.addr d.len ≡ Some bytes → memory_bytes p d.pid d.addr d.len ≡ Some bytes
  unfolding own_bytes memory_bytes
  shown_alike is = shown_of (find pid_of d.pid p.world.procs) refl (ap (λ (v : World). own_bytes v d.pid d.addr d.len) stands.world ∙ is)

-- what the law says of a walk that doesn't end with a stray access, and of one that does
module _ (private : Walk) (one : WalkIn) where
  ends_at : (end : Option End) → private.end ≡ end → GoesAlike private.world one end → ((pid : ℕ) (access : Access) → end ≢ Some (stray_at pid access)) → EndsAlike private.world one private.end
  ends_at (Some (stray_at pid access)) is goes never = absurd (never pid access refl)
  ends_at (Some all_ended) is goes never = subst (EndsAlike private.world one) (sym is) goes
  ends_at (Some stuck) is goes never = subst (EndsAlike private.world one) (sym is) goes
  ends_at (Some out_of_quanta) is goes never = subst (EndsAlike private.world one) (sym is) goes
  ends_at (Some log_full) is goes never = subst (EndsAlike private.world one) (sym is) goes
  ends_at None is goes never = subst (EndsAlike private.world one) (sym is) goes

  module _ (goes : GoesAlike private.world one private.end) where
    pub ends_alike : ((pid : ℕ) (access : Access) → private.end ≢ Some (stray_at pid access)) → EndsAlike private.world one private.end
    ends_alike never = ends_at private.end refl goes never

    pub goes_past : (pid : ℕ) (access : Access) → private.end ≡ Some (stray_at pid access) → GoesPast private.world one pid access
    goes_past pid access is = subst (GoesAlike private.world one) is goes

    pub goes_on_well : GoesOnWell private one
    goes_on_well = record {
      alike = λ never.
          let ends = ends_alike never in
          record {
            world = ends.stands.world;
            end = ends.ends;
            shown = λ d bytes is. shown_alike private.world one.now ends.stands d bytes is;
          };
      past = goes_past;
    }

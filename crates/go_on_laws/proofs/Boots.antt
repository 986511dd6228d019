-- The opening world.
use Rattle.std.proofs.Common.{◌≡◌, ℕ, suc, ◌+◌, ◌≤◌, Bool, true, false, inl, inr, List, [], ◌∷◌, length, Option, Some, None, Result, Ok, Err, refl, sym, ap, subst, ◌∙◌, arith}
use Rattle.std.specs.Prelude.{◌==◌, is_some, slice_get, if◌then◌else◌}
use Rattle.std.proofs.lemmas.Bool.{cases_Bool}
use Rattle.std.proofs.lemmas.Option.{none-some, same_Some}
use Rattle.byte_words.specs.ByteMap.{Bytes}
use Rattle.nommu_regions.specs.declared.region.Source.TheVariants.{Own}
use Rattle.call_log.specs.Notes.{LoadEntry, Note, call_note, load_note, end_note, stray_note}
use Rattle.mmap_rules.specs.declared.mapping.Mapping.{Mapping}
use Rattle.mmap_rules.specs.Space.{in_range, own_in}
use Rattle.mmap_rules.proofs.Lists.{each_one}
use Rattle.region_watch.specs.Private.{only}
use Rattle.flat_loader.specs.Original.{block_pages}
use Rattle.flat_loader.specs.Frame.{frame_fits}
use Rattle.flat_loader.specs.Begin.{Loading, in_block, own_range, begin_bytes, begin_space}
use Rattle.vfork_exec.specs.Keyed.{find}
use Rattle.vfork_exec.proofs.Keyed.{find_head}
use Rattle.machine_world.specs.World.{LiveSpace, Rest, World, id_of}
use Rattle.machine_world.specs.Free.{free}
use Rattle.machine_world.specs.Boot.{StartLine, BootFault, Found, found, start_path, begun, address_of, taken, placed, fitting, located, started, all_started, then_started, empty_world, boot}
use Rattle.alone_laws.specs.Sound.{most_given, IsSound}
use Rattle.alone_laws.specs.Laws.{CanBoot}
use Rattle.alone_laws.proofs.SharedPages.{IsFree}
use Rattle.alone_laws.proofs.SoundBegins.{pages_free, begun_sound, boots_are_sound}
use Rattle.memory_world.specs.Physical.{in_memory, or_below, over, bytes_in, headed, has_stray, zeros, all_headed, first_memory, opening_in}
use Rattle.memory_world.proofs.InMemory.{showing_shown}
use Rattle.memory_world.proofs.Shows.{openings_show}
use Rattle.go_on_laws.specs.Alike.{AreHeaders, HoldsPages, Stands}
use Rattle.go_on_laws.specs.Laws.{BootsGoOn, BootsNoteNoStray}
use Rattle.go_on_laws.proofs.Pages.{own_not_free}
use Rattle.go_on_laws.proofs.Behind.{only_same, shows_all}
use Rattle.go_on_laws.proofs.Execs.{header_off, header_there, below_some, block_inside, held_beside, begin_at, begin_off, beside_own, beside_header, begun_in_it}

-- ---- memory under the blocks

abbrev back : List (List ℕ) → World → Bytes
back headers w = all_headed headers w.notes (zeros w)

abbrev first : List (List ℕ) → World → Bytes
first headers w = over (bytes_in w.spaces) (back headers w)

headed_there : (headers : List (List ℕ)) (n : Note) (memory : Bytes) (a : ℕ) → is_some (memory a) ≡ true → is_some (headed headers (n ∷ []) memory a) ≡ true
headed_there headers (load_note l) memory a there = header_there headers l [] memory a there
headed_there headers (call_note entry) memory a there = there
headed_there headers (end_note pid how) memory a there = there
headed_there headers (stray_note pid seen) memory a there = there

all_there : (headers : List (List ℕ)) (notes : List Note) (memory : Bytes) (a : ℕ) → is_some (memory a) ≡ true → is_some (all_headed headers notes memory a) ≡ true
all_there headers [] memory a there = there
all_there headers (n ∷ ns) memory a there = headed_there headers n (all_headed headers ns memory) a (all_there headers ns memory a there)

back_there : (headers : List (List ℕ)) (w : World) (a : ℕ) → in_memory w a ≡ true → is_some (back headers w a) ≡ true
back_there headers w a inside = all_there headers w.notes (zeros w) a (ap (λ (b : Bool). is_some {T = ℕ} (if b then Some 0 else None)) inside)

-- ---- a world that opens, and in which some pids may be given before the first call

record Shows (headers : List (List ℕ)) (w : World) : Type 0 where
  shown : (k : ℕ) (t : LiveSpace) → find id_of k w.spaces ≡ Some t → t.space.bytes ≡ only (own_in t.space.maps) (first headers w)
  all : (a : ℕ) → is_some (first headers w a) ≡ in_memory w a

record Opens (headers : List (List ℕ)) (left : ℕ) (w : World) : Type 0 where
  sound : IsSound w
  few : w.next_pid + left ≤ most_given
  own : (k : ℕ) (t : LiveSpace) → find id_of k w.spaces ≡ Some t → (j : ℕ) (m : Mapping) → slice_get t.space.maps j ≡ Some m → m.source ≡ Own
  shows : Shows headers w

module _ (headers : List (List ℕ)) (are : AreHeaders headers) where
  -- ---- one program more

  module _ (w : World) (sound : IsSound w) (shows : Shows headers w) (index page : ℕ) (l : Loading) (is : l.block ≡ address_of page)
      (chosen : taken w (block_pages l.original) (free w) ≡ Some page) where
    run : IsFree w.rest.pages w.spaces page (block_pages l.original)
    run = pages_free w page l chosen

    abbrev now : World
    now = begun w index l

    abbrev its : LiveSpace
    its = record { id = w.loads; space = begin_space l }

    abbrev its_load : LoadEntry
    its_load = record { pid = w.next_pid; program = index; base = l.block; pages = block_pages l.original }

    here : (a : ℕ) → in_range (own_range l) a ≡ true → first headers now a ≡ begin_bytes l a
    unfolding begin_space
    here a inside =
        ap (λ (x : Option ℕ). or_below (or_below x (bytes_in w.spaces a)) (back headers now a)) (begin_at l a inside) ∙ sym (begin_at l a inside)

    beside : (a : ℕ) → in_block l a ≡ false → first headers now a ≡ first headers w a
    unfolding begin_space
    beside a away =
        ap (λ (x : Option ℕ). or_below (or_below x (bytes_in w.spaces a)) (back headers now a)) (begin_off l a (beside_own l a away))
        ∙ ap (or_below (bytes_in w.spaces a)) (header_off headers its_load [] (back headers w) are a (beside_header l a away))

    by_id : (P : LiveSpace → Type 0) (k : ℕ) (t : LiveSpace) → find id_of k (its ∷ w.spaces) ≡ Some t → P its → (find id_of k w.spaces ≡ Some t → P t) → P t
    by_id P k t found own away = elim (cases_Bool (w.loads == k)) [
      | inl that ↦ subst P (same_Some its t (sym (find_head id_of k its w.spaces true that) ∙ found)) own
      | inr other ↦ away (sym (find_head id_of k its w.spaces false other) ∙ found)
    ]

    begun_shows : Shows headers now
    begun_shows = record {
      shown = λ k t found.
          by_id (λ x. x.space.bytes ≡ only (own_in x.space.maps) (first headers now)) k t found (begun_in_it l (first headers now) w here).shown
          (λ was. shows.shown k t was
          ∙ only_same (own_in t.space.maps) (first headers w) (first headers now)
          (λ a own. sym (beside a (held_beside w page l is run a (own_not_free w sound k t was a own)))));
      all = λ a. elim (cases_Bool (in_block l a)) [
        | inl inside ↦ (
            let in_it = block_inside w page l is run a inside in
            below_some (bytes_in (its ∷ w.spaces) a) (back headers now a) (header_there headers its_load [] (back headers w) a (back_there headers w a in_it)) ∙ sym in_it)
        | inr away ↦ ap is_some (beside a away) ∙ shows.all a
      ];
    }

    begun_own : ((k : ℕ) (t : LiveSpace) → find id_of k w.spaces ≡ Some t → (j : ℕ) (m : Mapping) → slice_get t.space.maps j ≡ Some m → m.source ≡ Own)
        → (k : ℕ) (t : LiveSpace) → find id_of k now.spaces ≡ Some t → (j : ℕ) (m : Mapping) → slice_get t.space.maps j ≡ Some m → m.source ≡ Own
    unfolding begin_space
    begun_own own k t found = by_id (λ x. (j : ℕ) (m : Mapping) → slice_get x.space.maps j ≡ Some m → m.source ≡ Own) k t found (each_one (λ m. m.source ≡ Own) _ refl) (λ was. own k t was)

  -- ---- the start lines

  abbrev Begins : ℕ → Result World BootFault → Type 0
  Begins left (Ok now) = Opens headers left now
  Begins left (Err fault) = Unit {0}

  module _ (left : ℕ) (w : World) (o : Opens headers (suc left) w) (s : StartLine) where
    begins_placed : (f : Found) (page : Option ℕ) → taken w (block_pages f.original) (free w) ≡ page → Begins left (placed w s f page)
    begins_placed f None chosen = tt
    begins_placed f (Some page) chosen =
        let l : Loading = record { original = f.original; block = address_of page; args = s.args; env = [] } in
        record {
          sound = begun_sound w o.sound (let few = o.few in omega (arith, few)) f.index page l refl chosen;
          few = let few = o.few in omega (arith, few);
          own = begun_own w o.sound o.shows f.index page l refl chosen o.own;
          shows = begun_shows w o.sound o.shows f.index page l refl chosen;
        }

    begins_fitting : (f : Found) (fits : Bool) → Begins left (fitting w s f fits)
    begins_fitting f true = begins_placed f (taken w (block_pages f.original) (free w)) refl
    begins_fitting f false = tt

    begins_located : (found : Option Found) → Begins left (located w s found)
    begins_located None = tt
    begins_located (Some f) = begins_fitting f (frame_fits f.original s.args [])

    begins_started : Begins left (started w s)
    unfolding started
    begins_started = begins_located (found w.rest (start_path s))

  begins_all : (ss : List StartLine) (w : World) → Opens headers (length ss) w → Begins 0 (all_started w ss)
  unfolding all_started
  begins_all [] w o = o
  begins_all (s ∷ ss) w o = on (started w s) (begins_started (length ss) w o s) (λ v opens. begins_all ss v opens)
    where
      on : (r : Result World BootFault) → Begins (length ss) r → ((v : World) → Opens headers (length ss) v → Begins 0 (all_started v ss)) → Begins 0 (then_started r (λ now. all_started now ss))
      on (Ok now) begins more = more now begins
      on (Err fault) begins more = tt

  empty_opens : (rest : Rest) (left : ℕ) → CanBoot rest → 1 + left ≤ most_given → Opens headers left (empty_world rest)
  unfolding boot all_started find
  empty_opens rest left can few = record {
    sound = boots_are_sound rest [] (empty_world rest) can (omega arith) refl;
    few = few;
    own = λ k t found. absurd (none-some t found);
    shows = record { shown = λ k t found. absurd (none-some t found); all = λ a. by (in_memory (empty_world rest) a) };
  }
    where
      by : (b : Bool) → is_some {T = ℕ} (if b then Some 0 else None) ≡ b
      by true = refl
      by false = refl

  -- ---- what is shown is the world

  opens_stands : (w : World) → Opens headers 0 w → Stands w (opening_in headers w)
  unfolding opening_in first_memory
  opens_stands w o = record {
    world = showing_shown (first headers w) w (shows_all (first headers w) w.loads w.spaces o.sound.numbers o.shows.shown);
    shown = openings_show headers w;
    all = o.shows.all;
    copies = λ i s found j m there. subst (HoldsPages (first headers w) w.rest.tree m) (sym (o.own i s found j m there)) tt;
    headers = are;
  }

pub boots_go_on : BootsGoOn
unfolding boot
boots_go_on rest starts w headers can few are is =
    opens_stands headers are w (subst (Begins headers are 0) is (begins_all headers are starts (empty_world rest) (empty_opens headers are rest (length starts) can (omega (arith, few)))))

-- ---- boot notes loads alone

module _ (w : World) (none : has_stray w.notes ≡ false) (s : StartLine) where
  abbrev Unstrayed : Result World BootFault → Type 0
  Unstrayed (Ok now) = has_stray now.notes ≡ false
  Unstrayed (Err fault) = Unit {0}

  placed_unstrayed : (f : Found) (page : Option ℕ) → Unstrayed (placed w s f page)
  placed_unstrayed f None = tt
  placed_unstrayed f (Some page) = none

  fitting_unstrayed : (f : Found) (fits : Bool) → Unstrayed (fitting w s f fits)
  fitting_unstrayed f true = placed_unstrayed f (taken w (block_pages f.original) (free w))
  fitting_unstrayed f false = tt

  located_unstrayed : (found : Option Found) → Unstrayed (located w s found)
  located_unstrayed None = tt
  located_unstrayed (Some f) = fitting_unstrayed f (frame_fits f.original s.args [])

  started_unstrayed : (v : World) → started w s ≡ Ok v → has_stray v.notes ≡ false
  unfolding started
  started_unstrayed v is = subst Unstrayed is (located_unstrayed (found w.rest (start_path s)))

all_unstrayed : (ss : List StartLine) (w now : World) → has_stray w.notes ≡ false → all_started w ss ≡ Ok now → has_stray now.notes ≡ false
unfolding all_started
all_unstrayed [] w now none is = let same : w ≡ now = cc in subst (λ (v : World). has_stray v.notes ≡ false) same none
all_unstrayed (s ∷ ss) w now none is = by (started w s) refl is (λ v first more. all_unstrayed ss v now first more)
  where
    by : (r : Result World BootFault) → started w s ≡ r → then_started r (λ v. all_started v ss) ≡ Ok now
        → ((v : World) → has_stray v.notes ≡ false → all_started v ss ≡ Ok now → has_stray now.notes ≡ false) → has_stray now.notes ≡ false
    by (Ok v) starts e more = more v (started_unstrayed w none s v starts) e
    by (Err fault) starts e more = absurd cc

pub boots_note_no_stray : BootsNoteNoStray
unfolding boot
boots_note_no_stray rest starts w is = all_unstrayed starts (empty_world rest) w refl is

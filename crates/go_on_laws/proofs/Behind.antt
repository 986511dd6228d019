-- Spaces that show memory, whose copies have their files' bytes in all pages, and what comes of an event that leaves such.
use Rattle.std.proofs.Common.{◌≡◌, ◌≢◌, ℕ, ◌<◌, ◌≤◌, Bool, true, false, List, [], ◌∷◌, map, length, Some, None, refl, sym, ap, ◌∙◌, arith}
use Rattle.std.specs.Prelude.{if◌then◌else◌, is_some, slice_get, option_map}
use Rattle.std.proofs.lemmas.Option.{same_Some}
use Rattle.byte_words.specs.ByteMap.{Bytes}
use Rattle.nommu_regions.specs.declared.region.Source.{Source}
use Rattle.nommu_regions.specs.declared.region.Source.TheVariants.{Own, Copy}
use Rattle.nommu_regions.specs.Regions.{is_copy}
use Rattle.mmap_rules.specs.declared.mapping.Mapping.{Mapping}
use Rattle.mmap_rules.specs.Space.{Space, own_in}
use Rattle.mem_files.specs.Inodes.{Inode, Inodes, inode_at, bytes_in}
use Rattle.region_watch.specs.Private.{only}
use Rattle.vfork_exec.specs.Keyed.{Falls, find, change}
use Rattle.vfork_exec.proofs.Keyed.{find_head, find_later, find_below, find_key, find_map, change_map, falls_change, eqb_same}
use Rattle.machine_world.specs.World.{LiveSpace, World, id_of}
use Rattle.machine_world.specs.Event.{Trace, Outcome, went, strays, full, idle, awake, settled}
use Rattle.machine_world.specs.Ages.{Follows}
use Rattle.machine_world.proofs.States.{with_own}
use Rattle.alone_laws.specs.Sound.{copied_byte, HoldsSource, IsSound}
use Rattle.alone_laws.proofs.Moved.{by_changed}
use Rattle.memory_world.specs.Physical.{Physical, in_memory, shown_space, After, after, no_room, nobody, carried, settled_in}
use Rattle.memory_world.proofs.InMemory.{space_shows, plain_behind}
use Rattle.memory_world.proofs.Moves.{own_now}
use Rattle.go_on_laws.specs.Alike.{in_pages, HoldsPages, Stands}

-- ---- a copy

-- with what is true of it whenever the files change
pub record HasFile (memory : Bytes) (nodes : Inodes) (m : Mapping) (file change : ℕ) : Type 0 where
  pub given : file < length nodes
  pub up : (n : Inode) → inode_at nodes file ≡ Some n → change ≤ n.change
  pub same : (n : Inode) (a : ℕ) → inode_at nodes file ≡ Some n → change ≡ n.change → in_pages m a ≡ true → memory a ≡ Some (copied_byte (bytes_in n.content) m a)

abbrev pub HasSource : Bytes → Inodes → Mapping → Source → Type 0
HasSource memory nodes m Own = Unit {0}
HasSource memory nodes m (Copy file change first) = HasFile memory nodes m file change

pub has_source : (memory : Bytes) (nodes : Inodes) (s : Space) (m : Mapping) (source : Source) → HoldsSource s nodes m source → HoldsPages memory nodes m source → HasSource memory nodes m source
has_source memory nodes s m Own holds pages = tt
has_source memory nodes s m (Copy file change first) holds pages = record { given = holds.given; up = holds.up; same = pages }

pub has_pages : (memory : Bytes) (nodes : Inodes) (m : Mapping) (source : Source) → HasSource memory nodes m source → HoldsPages memory nodes m source
has_pages memory nodes m Own has = tt
has_pages memory nodes m (Copy file change first) has = has.same

-- files change
pub has_later : (memory : Bytes) (old new : Inodes) (m : Mapping) (source : Source) → Follows old new → HasSource memory old m source → HasSource memory new m source
has_later memory old new m Own follows has = tt
has_later memory old new m (Copy file change first) follows has = record {
  given = let more = follows.grows in let given = has.given in omega arith;
  up = λ n there. (
      let aged = follows.nodes file n has.given there in
      let before = has.up aged.was aged.there in
      let after = aged.ages.up in
      omega arith);
  same = λ n a there count inside. (
      let aged = follows.nodes file n has.given there in
      let before = has.up aged.was aged.there in
      let after = aged.ages.up in
      let was : change ≡ aged.was.change = omega arith in
      let still : aged.was.change ≡ n.change = omega arith in
      has.same aged.was a aged.there was inside ∙ ap (λ (bs : List ℕ). Some (copied_byte bs m a)) (aged.ages.same still));
}

-- and memory elsewhere
pub has_elsewhere : (memory new : Bytes) (nodes : Inodes) (m : Mapping) (source : Source) → (is_copy source ≡ true → (a : ℕ) → in_pages m a ≡ true → new a ≡ memory a)
    → HasSource memory nodes m source → HasSource new nodes m source
has_elsewhere memory new nodes m Own same has = tt
has_elsewhere memory new nodes m (Copy file change first) same has = record {
  given = has.given;
  up = has.up;
  same = λ n a there count inside. same refl a inside ∙ has.same n a there count inside;
}

-- ---- a space

pub record IsIn (memory : Bytes) (nodes : Inodes) (s : Space) : Type 0 where
  pub shown : s.bytes ≡ only (own_in s.maps) memory
  pub files : (j : ℕ) (m : Mapping) → slice_get s.maps j ≡ Some m → HasSource memory nodes m m.source

pub only_same : (test : ℕ → Bool) (m n : Bytes) → ((a : ℕ) → test a ≡ true → m a ≡ n a) → only test m ≡ only test n
unfolding only
only_same test m n same = λ i a. by a (test a) refl i
  where
    by : (a : ℕ) (b : Bool) → test a ≡ b → (if b then m a else None) ≡ (if b then n a else None)
    by a true is = same a is
    by a false is = refl

-- its own bytes and the pages of its copies are as they were
pub in_elsewhere : (memory new : Bytes) (nodes : Inodes) (s : Space) → ((a : ℕ) → own_in s.maps a ≡ true → new a ≡ memory a)
    → ((j : ℕ) (m : Mapping) → slice_get s.maps j ≡ Some m → is_copy m.source ≡ true → (a : ℕ) → in_pages m a ≡ true → new a ≡ memory a)
    → IsIn memory nodes s → IsIn new nodes s
in_elsewhere memory new nodes s own copies is = record {
  shown = is.shown ∙ only_same (own_in s.maps) memory new (λ a inside. sym (own a inside));
  files = λ j m there. has_elsewhere memory new nodes m m.source (copies j m there) (is.files j m there);
}

-- ---- the spaces of a world

pub shows_all : (memory : Bytes) (b : ℕ) (ss : List LiveSpace) → Falls id_of b ss → ((k : ℕ) (t : LiveSpace) → find id_of k ss ≡ Some t → t.space.bytes ≡ only (own_in t.space.maps) memory)
    → map (shown_space memory) ss ≡ ss
shows_all memory b [] falls each = refl
shows_all memory b (s ∷ ss) falls each =
    let here : s.space.bytes ≡ only (own_in s.space.maps) memory = each s.id s (find_head id_of s.id s ss true (eqb_same s.id s.id refl)) in
    ap (λ (f : Bytes). record s { space = record s.space { bytes = f } } ∷ map (shown_space memory) ss) (sym here)
    ∙ ap (λ (rest : List LiveSpace). s ∷ rest)
    (shows_all memory s.id ss falls.1
    (λ k t found. each k t (find_later id_of k s ss (λ e. (let less = find_below id_of k s.id ss t falls.1 found in omega (arith, less, e))) ∙ found)))

pub found_shows : (memory : Bytes) (k : ℕ) (t : LiveSpace) (ss : List LiveSpace) → map (shown_space memory) ss ≡ ss → find id_of k ss ≡ Some t → t.space.bytes ≡ only (own_in t.space.maps) memory
found_shows memory k t ss shown found =
    space_shows memory t
    (same_Some (shown_space memory t) t (sym (find_map id_of id_of k (shown_space memory) (λ l. refl) ss ∙ ap (option_map (shown_space memory)) found) ∙ ap (find id_of k) shown ∙ found))

-- spaces over memory, of which the files are as in the world before
pub record Behind (w : World) (loads : ℕ) (spaces : List LiveSpace) (memory : Bytes) : Type 0 where
  pub falls : Falls id_of loads spaces
  pub each : (k : ℕ) (t : LiveSpace) → find id_of k spaces ≡ Some t → IsIn memory w.rest.tree t.space
  pub all : (a : ℕ) → is_some (memory a) ≡ in_memory w a

pub behind_shown : (w : World) (loads : ℕ) (spaces : List LiveSpace) (memory : Bytes) → Behind w loads spaces memory → map (shown_space memory) spaces ≡ spaces
behind_shown w loads spaces memory b = shows_all memory loads spaces b.falls (λ k t found. (b.each k t found).shown)

-- a space that is put in, shown, whatever bytes it had
pub put_alike : (i : ℕ) (s : Space) (x y memory : Bytes) (ss : List LiveSpace)
    → map (shown_space memory) (change id_of i (λ l. with_own l (record s { bytes = x })) ss) ≡ map (shown_space memory) (change id_of i (λ l. with_own l (record s { bytes = y })) ss)
put_alike i s x y memory ss =
    change_map id_of id_of i (shown_space memory) (λ l. refl) (λ l. with_own l (record s { bytes = x })) (λ l. with_own l (own_now memory s)) (λ l. refl) ss
    ∙ sym (change_map id_of id_of i (shown_space memory) (λ l. refl) (λ l. with_own l (record s { bytes = y })) (λ l. with_own l (own_now memory s)) (λ l. refl) ss)

-- ---- what comes of an event

pub record Came (p : Physical) (now : World) (over : Bool) (a : After) : Type 0 where
  pub behind : Physical
  pub is : a ≡ after behind over
  pub world : behind.world ≡ now
  pub headers : behind.headers ≡ p.headers
  pub left : Behind p.world now.loads now.spaces behind.memory

abbrev pub Goes : Physical → Outcome → After → Type 0
Goes p (went now t) a = Came p now t.over a
Goes p (strays access) a = Unit {0}
Goes p full a = a ≡ no_room p
Goes p idle a = a ≡ nobody

pub goes_if : (p : Physical) (test : Bool) (x y : Outcome) (a b : After) → Goes p x a → Goes p y b → Goes p (if test then x else y) (if test then a else b)
goes_if p true x y a b first second = first
goes_if p false x y a b first second = second

-- as memory leaves it, and where the log has no room not at all
pub goes_carried : (p : Physical) (memory : Bytes) (test : Bool) (x y : Outcome) → Goes p x (carried p memory x) → Goes p y (carried p memory y)
    → Goes p (if test then x else y) (carried p memory (if test then x else y))
goes_carried p memory true x y first second = first
goes_carried p memory false x y first second = second

pub goes_room : (p : Physical) (memory : Bytes) (room : Bool) (now there : World) (t u : Trace) → Came p now t.over (carried p memory (went there u))
    → Goes p (if room then went now t else full) (carried p memory (if room then went there u else full))
goes_room p memory true now there t u came = came
goes_room p memory false now there t u came = refl

-- nothing is laid, and memory stays
pub came_plain : (p : Physical) (now : World) (t : Trace) → t.begins ≡ None → Behind p.world now.loads now.spaces p.memory → Came p now t.over (carried p p.memory (went now t))
came_plain p now t nothing b = record {
  behind = record p { world = now };
  is = ap (λ q. after q t.over) (plain_behind p now t nothing (behind_shown p.world now.loads now.spaces p.memory b));
  world = refl;
  headers = refl;
  left = b;
}

-- those go on who wait on pipes
pub goes_settled : (p : Physical) (o : Outcome) (a : After) → Goes p o a → Goes p (settled o) (settled_in a)
unfolding settled
goes_settled p (went now t) a c = record {
  behind = record c.behind { world = awake c.behind.world };
  is = ap settled_in c.is;
  world = ap awake c.world;
  headers = c.headers;
  left = c.left;
}
goes_settled p (strays access) a c = tt
goes_settled p full a c = ap settled_in c
goes_settled p idle a c = ap settled_in c

-- ---- the spaces that change

module _ (p : Physical) (sound : IsSound p.world) (stands : Stands p.world p) where
  abbrev w : World
  w = p.world

  -- each as it is
  pub is_in : (k : ℕ) (t : LiveSpace) → find id_of k w.spaces ≡ Some t → IsIn p.memory w.rest.tree t.space
  is_in k t found = record {
    shown = found_shows p.memory k t w.spaces stands.shown found;
    files = λ j m there. has_source p.memory w.rest.tree t.space m m.source (sound.copies k t found j m there) (stands.copies k t found j m there);
  }

  -- some of them
  pub behind_some : (loads : ℕ) (spaces : List LiveSpace) → Falls id_of loads spaces → ((k : ℕ) (t : LiveSpace) → find id_of k spaces ≡ Some t → find id_of k w.spaces ≡ Some t)
      → Behind w loads spaces p.memory
  behind_some loads spaces falls were = record { falls = falls; each = λ k t found. is_in k t (were k t found); all = stands.all }

  pub behind_same : Behind w w.loads w.spaces p.memory
  behind_same = behind_some w.loads w.spaces sound.numbers (λ k t found. found)

  -- one changes
  pub behind_changed : (i : ℕ) (s : LiveSpace) → find id_of i w.spaces ≡ Some s → (space : Space) (memory : Bytes) → IsIn memory w.rest.tree space
      → ((k : ℕ) (t : LiveSpace) → k ≢ i → find id_of k w.spaces ≡ Some t → IsIn memory w.rest.tree t.space) → ((a : ℕ) → is_some (memory a) ≡ in_memory w a)
      → Behind w w.loads (change id_of i (λ l. with_own l space) w.spaces) memory
  behind_changed i s has space memory its others all = record {
    falls = falls_change id_of i (λ l. with_own l space) (λ l. refl) w.loads w.spaces sound.numbers;
    each = λ k t found. by_id k t found;
    all = all;
  }
    where
      number : s.id ≡ i
      number = find_key id_of i w.spaces s has

      by_id : (k : ℕ) (t : LiveSpace) → find id_of k (change id_of i (λ l. with_own l space) w.spaces) ≡ Some t → IsIn memory w.rest.tree t.space
      by_id k t found =
          by_changed id_of (λ l. with_own l space) (λ l. refl) s w.spaces (ap (λ (n : ℕ). find id_of n w.spaces) number ∙ has) (λ l. IsIn memory w.rest.tree l.space) k t
          (ap (λ (n : ℕ). find id_of k (change id_of n (λ l. with_own l space) w.spaces)) number ∙ found) its
          (λ other was. others k t (λ e. other (e ∙ sym number)) was)

  pub behind_put : (i : ℕ) (s : LiveSpace) → find id_of i w.spaces ≡ Some s → (space : Space) → IsIn p.memory w.rest.tree space
      → Behind w w.loads (change id_of i (λ l. with_own l space) w.spaces) p.memory
  behind_put i s has space its = behind_changed i s has space p.memory its (λ k t other found. is_in k t found) stands.all

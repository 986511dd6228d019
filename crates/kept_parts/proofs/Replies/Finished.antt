-- What is kept after a call that has its reply, by what the code did.
use Rattle.std.proofs.Common.{◌≡◌, ℕ, false, List, [], ◌∷◌, length, Some, None, Ok, refl, sym, ap, ◌∙◌}
use Rattle.std.specs.Prelude.{◌≤◌, ◌==◌, option_map, Option, slice_get, slice_set}
use Rattle.call_log.specs.Notes.{GotRange, Note}
use Rattle.nommu_regions.specs.declared.region.Region.{Region}
use Rattle.mmap_rules.specs.Space.{Space, own_in, writable_in}
use Rattle.mmap_rules.specs.Held.{Held, next_brk}
use Rattle.region_watch.specs.Private.{physical}
use Rattle.mem_files.specs.Inodes.{Inodes}
use Rattle.fd_tables.specs.Files.{OpenFiles}
use Rattle.fd_tables.specs.Spare.{SpareFiles}
use Rattle.vfork_exec.specs.declared.entry.Entry.{Entry}
use Rattle.vfork_exec.specs.Procs.{Listed, Lives, value_at, with_value_at}
use Rattle.machine_world.specs.World.{Rest, Recording}
use Rattle.machine_world.specs.Ages.{kept_calls}
use Rattle.machine_world.specs.Asks.{Row, replies, leaves}
use Rattle.machine_world.specs.Rows.{row}
use Rattle.machine_world.specs.Event.{put_got, replied, maps_file}
use Rattle.file_calls.specs.declared.call.Call.{Call}
use Rattle.file_calls.specs.declared.outcome.Outcome.{Outcome as Output}
use Rattle.file_calls.specs.Calls.{IsRest, with_all, after, got_of}
use Rattle.kept_parts.specs.declared.task.Task.{Task}
use Rattle.kept_parts.specs.declared.effect.Effect.{Effect}
use Rattle.kept_parts.specs.declared.effect.Effect.TheVariants.{Answer, Yield, Break}
use Rattle.kept_parts.specs.Kept.{Kept}
use Rattle.kept_parts.specs.Regular.{Regular}
use Rattle.kept_parts.specs.Recorded.{event_recorded, call_recorded}
use Rattle.kept_parts.specs.Stands.{About, private_bytes, private_of, world_of, OthersSame}
use Rattle.call_bytes.specs.Puts.{stray_range}
use Rattle.region_watch.specs.Private.{in_pages}
use Rattle.kept_parts.specs.Calls.{LivesIn, IsCall, ask_in, reply_of, value_of, brk_of, maps_by, noted_entry, noted_call, held_as, after_reply, Changed, output_reply, Gave, GaveIn}
use Rattle.kept_parts.proofs.Common.SpacesApart.{others_keep}
use Rattle.kept_parts.proofs.Common.Recorded.{maps_by_none, maps_none, recorded_plain, regular_recorded}
use Rattle.call_bytes.proofs.Puts.{part_put, part_frozen, writable_own}
use Rattle.kept_parts.proofs.Common.RunningProcess.{runs_in, has_space}
use Rattle.kept_parts.proofs.Replies.Replied.{regular_replied}
use Rattle.kept_parts.proofs.Common.StaysRegular.{set_kept}

-- the process that called has its reply
abbrev pub Finishes : Kept → ℕ → ℕ → Listed Task → Type 0
Finishes k pid value procs = (t : Task) → value_at k.procs pid ≡ Some t → procs ≡ with_value_at k.procs pid (record t { regs = replied t.regs value })

-- what holds of the parts still holds
pub regular_finished : (k : Kept) (pid : ℕ) → Regular k → Lives k.procs pid → (value : ℕ) (mem : List ℕ) (tree : Inodes) (files : OpenFiles) (procs : Listed Task) (notes : List Note) (console : List ℕ) (recording : Recording) →
    length mem ≡ length k.mem → Finishes k pid value procs → kept_calls k.notes ≤ kept_calls notes →
    Regular (record k { mem = mem; tree = tree; files = files; procs = procs; notes = notes; console = console; recording = recording })
regular_finished k pid regular lives value mem tree files procs notes console recording same finishes more =
    let r = runs_in k pid regular lives in
    let t : Task = r.0.value in
    let h : Held = r.1.0 in
    let kept = ap (option_map (λ (x : Entry Task). x.value)) r.1.1.lives in
    regular_recorded _ (regular_replied k pid t h regular lives kept r.1.1.home (replied t.regs value) h.brk mem k.spaces tree files procs notes console
    same (sym (set_kept k.spaces t.space (Some h) r.1.1.home)) (finishes t kept) more) recording

-- the same where the break of its space moves
pub regular_settled : (k : Kept) (pid : ℕ) → Regular k → Lives k.procs pid → (t : Task) → value_at k.procs pid ≡ Some t → (value : ℕ) (brk : Held → ℕ) (spaces : List (Option Held)) (procs : Listed Task) (notes : List Note) (recording : Recording) →
    ((h : Held) → slice_get k.spaces t.space ≡ Some (Some h) → spaces ≡ slice_set k.spaces t.space (Some (record h { brk = brk h }))) → Finishes k pid value procs → kept_calls k.notes ≤ kept_calls notes →
    Regular (record k { spaces = spaces; procs = procs; notes = notes; recording = recording })
regular_settled k pid regular lives t kept value brk spaces procs notes recording moves finishes more =
    let live = has_space k pid t regular lives kept in
    let h = live.held in
    regular_recorded _ (regular_replied k pid t h regular lives kept live.there (replied t.regs value) (brk h) k.mem spaces k.tree k.files procs notes k.console
    refl (moves h live.there) (finishes t kept) more) recording

module _ (a : About) (k : Kept) (e : Entry Task) (h : Held) (call : Call) (runs : LivesIn k call.pid e h) where
  kept_value : value_at k.procs call.pid ≡ Some e.value
  kept_value = ap (option_map (λ (x : Entry Task). x.value)) runs.lives

  space_stays : k.spaces ≡ slice_set k.spaces e.value.space (Some (record h { brk = h.brk }))
  space_stays = sym (set_kept k.spaces e.value.space (Some h) runs.home)

  -- a call that maps no file
  plain_recorded : (value : ℕ) (got : List GotRange) (space : Space) → maps_file (noted_entry call value got) ≡ false →
      call_recorded k.recording e.value.space (noted_entry call value got) space.bytes ≡ event_recorded k.recording e.value.space
  plain_recorded value got space plain = recorded_plain k.recording e.value.space (noted_entry call value got) space.bytes plain

  -- ---- by an effect

  value_is : (f : Effect) → value_of (next_brk h) f ≡ (reply_of (ask_in a k e h call) f).value
  value_is (Answer value) = refl
  value_is Yield = refl
  value_is (Break to) = refl

  held_is : (f : Effect) → record h { brk = brk_of (next_brk h) h.brk f } ≡ held_as h (reply_of (ask_in a k e h call) f).space
  held_is (Answer value) = refl
  held_is Yield = refl
  held_is (Break to) = refl

  rest_stays : (f : Effect) → (reply_of (ask_in a k e h call) f).rest ≡ (world_of a k).rest
  rest_stays (Answer value) = refl
  rest_stays Yield = refl
  rest_stays (Break to) = refl

  got_none : (f : Effect) → (reply_of (ask_in a k e h call) f).got ≡ []
  got_none (Answer value) = refl
  got_none Yield = refl
  got_none (Break to) = refl

  pub replied_by : (f : Effect) (value : ℕ) (spaces : List (Option Held)) (procs : Listed Task) (notes : List Note) (recording : Recording) →
      value ≡ value_of (next_brk h) f → spaces ≡ slice_set k.spaces e.value.space (Some (record h { brk = brk_of (next_brk h) h.brk f })) →
      Finishes k call.pid value procs → notes ≡ noted_call call value [] ∷ k.notes → recording ≡ event_recorded k.recording e.value.space → maps_by call f ≡ false →
      record k { spaces = spaces; procs = procs; notes = notes; recording = recording } ≡ after_reply k e h call (reply_of (ask_in a k e h call) f) k.mem
  unfolding world_of
  replied_by f value spaces procs notes recording says moves finishes noted recorded plain = λ i. record k {
    spaces = (moves ∙ ap (λ (x : Held). slice_set k.spaces e.value.space (Some x)) (held_is f)) i;
    tree = ap (λ (r : Rest). r.tree) (sym (rest_stays f)) i;
    files = ap (λ (r : Rest). r.files) (sym (rest_stays f)) i;
    procs = (finishes e.value kept_value ∙ ap (λ (v : ℕ). with_value_at k.procs call.pid (record e.value { regs = replied e.value.regs v })) (says ∙ value_is f)) i;
    notes = (noted ∙ (λ j. noted_call call ((says ∙ value_is f) j) (sym (got_none f) j) ∷ k.notes)) i;
    console = ap (λ (r : Rest). r.console) (sym (rest_stays f)) i;
    recording = (recorded ∙ sym (plain_recorded (reply_of (ask_in a k e h call) f).value (reply_of (ask_in a k e h call) f).got (reply_of (ask_in a k e h call) f).space
        (ap (λ (v : ℕ). maps_file (noted_entry call v (reply_of (ask_in a k e h call) f).got)) (sym (value_is f)) ∙ maps_by_none call f (next_brk h) (reply_of (ask_in a k e h call) f).got plain))) i;
  }

  -- ---- by a change of files

  module _ (is : IsCall e call) where
    pub is_rest : (files : SpareFiles) → files.open_files ≡ k.files → IsRest (ask_in a k e h call).rest k.tree files k.console
    unfolding world_of
    is_rest files open_now = record { tree = refl; files = sym open_now; console = refl }

    pub changed_by : (tree : Inodes) (files : OpenFiles) (console : List ℕ) (value : ℕ) (procs : Listed Task) (notes : List Note) (recording : Recording) →
        row (ask_in a k e h call) ≡ replies (record { value = value; got = []; rest = with_all (ask_in a k e h call).rest tree files console; space = private_of k.mem h; over = false }) →
        Finishes k call.pid value procs → notes ≡ noted_call call value [] ∷ k.notes → recording ≡ event_recorded k.recording e.value.space → (call.number == 222) ≡ false →
        Changed a k e h call (row (ask_in a k e h call)) (record k { tree = tree; files = files; procs = procs; notes = notes; console = console; recording = recording })
    changed_by tree files console value procs notes recording rows finishes noted recorded plain = record {
      reply = record { value = value; got = []; rest = with_all (ask_in a k e h call).rest tree files console; space = private_of k.mem h; over = false };
      replies = rows;
      got = refl;
      rest = refl;
      space = refl;
      over = refl;
      others = λ j x other there. refl;
      pages = refl;
      after = λ i. record k {
        spaces = space_stays i;
        tree = tree;
        files = files;
        procs = finishes e.value kept_value i;
        notes = noted i;
        console = console;
        recording = (recorded ∙ sym (plain_recorded value [] (private_of k.mem h) (maps_none call value [] plain))) i;
      };
    }

    -- ---- by another space

    pub moved_by : (r : Row) (space : Space) (value : ℕ) (mem : List ℕ) (rs : List Region) (held : Held) (spaces : List (Option Held)) (procs : Listed Task) (notes : List Note) (recording : Recording) →
        r ≡ leaves (ask_in a k e h call) value space → held ≡ held_as h space → space ≡ private_of mem held →
        OthersSame k e.value.space mem → length rs ≡ length k.regions → spaces ≡ slice_set k.spaces e.value.space (Some held) →
        Finishes k call.pid value procs → notes ≡ noted_call call value [] ∷ k.notes →
        recording ≡ call_recorded k.recording e.value.space (noted_entry call value []) space.bytes →
        Changed a k e h call r (record k { mem = mem; regions = rs; spaces = spaces; procs = procs; notes = notes; recording = recording })
    unfolding world_of
    moved_by r space value mem rs held spaces procs notes recording rows is_held is_space others pages moves finishes noted recorded = record {
      reply = record { value = value; got = []; rest = (ask_in a k e h call).rest; space = space; over = false };
      replies = rows;
      got = refl;
      rest = refl;
      space = is_space ∙ ap (private_of mem) is_held;
      over = refl;
      others = others;
      pages = pages;
      after = λ i. record k {
        mem = mem;
        regions = rs;
        spaces = (moves ∙ ap (λ (x : Held). slice_set k.spaces e.value.space (Some x)) is_held) i;
        procs = finishes e.value kept_value i;
        notes = noted i;
        recording = recorded i;
      };
    }

    -- ---- by an output

    gave_after : (o : Output) (mem : List ℕ) (files : OpenFiles) (procs : Listed Task) (notes : List Note) (recording : Recording) → files ≡ after o.then call.table k.files →
        Finishes k call.pid o.value procs → notes ≡ noted_call call o.value (got_of o) ∷ k.notes →
        recording ≡ event_recorded k.recording e.value.space → (call.number == 222) ≡ false →
        record k { mem = mem; files = files; procs = procs; notes = notes; recording = recording } ≡ after_reply k e h call (output_reply (ask_in a k e h call) o) mem
    unfolding world_of
    gave_after o mem files procs notes recording follows finishes noted recorded plain = λ i. record k {
      mem = mem;
      spaces = space_stays i;
      files = (follows ∙ ap (λ (t : ℕ). after o.then t k.files) is.table) i;
      procs = finishes e.value kept_value i;
      notes = noted i;
      recording = (recorded ∙ sym (plain_recorded o.value (got_of o) (private_of k.mem h) (maps_none call o.value (got_of o) plain))) i;
    }

    module _ (o : Output) (mem : List ℕ) (puts : put_got (physical k.mem) (in_pages (length k.regions)) (got_of o) ≡ Ok (physical mem)) (files : OpenFiles) (procs : Listed Task) (notes : List Note) (recording : Recording)
        (follows : files ≡ after o.then call.table k.files) (finishes : Finishes k call.pid o.value procs) (noted : notes ≡ noted_call call o.value (got_of o) ∷ k.notes)
        (recorded : recording ≡ event_recorded k.recording e.value.space) (plain : (call.number == 222) ≡ false) where
      -- into the space of its caller
      pub gave_by : Regular k → stray_range (writable_in h.maps) (got_of o) ≡ None → Gave a k e h call o (record k { mem = mem; files = files; procs = procs; notes = notes; recording = recording })
      unfolding private_bytes
      gave_by regular fits = record {
        put = part_put (own_in h.maps) (writable_in h.maps) (in_pages (length k.regions)) (writable_own h.maps) (physical mem) (got_of o) (physical k.mem) fits puts;
        others = λ j x other there. others_keep k regular e.value.space h runs.home mem
            (part_frozen (own_in h.maps) (writable_in h.maps) (in_pages (length k.regions)) (writable_own h.maps) (physical mem) (got_of o) (physical k.mem) fits puts) j x other there;
        after = gave_after o mem files procs notes recording follows finishes noted recorded plain;
      }

      -- into memory, whoever owns the places
      pub gave_in_by : length mem ≡ length k.mem → GaveIn a k e h call o (record k { mem = mem; files = files; procs = procs; notes = notes; recording = recording })
      gave_in_by len = record { put = puts; len = len; after = gave_after o mem files procs notes recording follows finishes noted recorded plain }

-- whatever ids the regions have
pub changed_ids : (a : About) (old : Kept) (e : Entry Task) (h : Held) (call : Call) (r : Row) (new : Kept) → Changed a old e h call r new → (starts : List ℕ) → Changed a old e h call r (record new { starts = starts })
changed_ids a old e h call r new is starts = record {
  reply = is.reply;
  replies = is.replies;
  got = is.got;
  rest = is.rest;
  space = is.space;
  over = is.over;
  others = is.others;
  pages = is.pages;
  after = ap (λ (k : Kept). record k { starts = starts }) is.after;
}

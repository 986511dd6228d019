-- What a call of `romfs` does.
use Rattle.std.proofs.Common.{◌≡◌, ℕ, ◌+◌, ◌≤◌, Bool, true, false, cond, List, [], ◌∷◌, ◌++◌, map, filter, length, nat_lt, Option, Some, None, is_some, Result, Ok, Err, refl, sym, ap, subst, ◌∙◌, arith, inl, inr}
use Rattle.std.specs.Prelude.{◌⊎◌}
use Rattle.std.specs.FinMap.{get, insert}
use Rattle.std.proofs.lemmas.Bool.Decides.{nat_tests}
use Rattle.std.proofs.lemmas.List.Sums.{sum_by-cons}
use Rattle.host_io.specs.Host.{Files, Told}
use Rattle.romfs_image.specs.Text.{most_bytes, rom_text}
use Rattle.mem_files.specs.Inodes.{Inode, Inodes, most_nodes, node_count}
use Rattle.mem_files.specs.Trees.{linked_in}
use Rattle.rom_tree.specs.Nodes.{tree_nodes}
use Rattle.rom_tree.specs.Laws.{named_count}
use Rattle.rom_tree.proofs.Sizes.{whole}
use Rattle.manifest_text.specs.Values.{Item, Manifest}
use Rattle.manifest_text.specs.Manifest.{Fault, tree_manifest_of}
use Rattle.run_setup.specs.Brought.{Brought, FaultAt, nothing_brought, all_brought}
use Rattle.run_setup.proofs.Unchanged.{lines_tree, lines_few}
use Rattle.file_commands.specs.declared.status.Status.TheVariants.{Done, HostRead, Refused}
use Rattle.file_commands.specs.Texts.Images.{too_large_tail, image_line}
use Rattle.file_commands.specs.Ending.{Ending, refused_ending}
use Rattle.file_commands.specs.Outcome.{load, store, Outcome, after}
use Rattle.file_commands.specs.Load.{at_once}
use Rattle.file_commands.specs.HostCourse.{AreLoads, after_answer, after_answers, inputs_in}
use Rattle.file_commands.specs.Items.{files_limit, has_file, with_items}
use Rattle.file_commands.specs.Manifests.{manifest_limit}
use Rattle.file_commands.specs.Arguments.{romfs}
use Rattle.file_commands.specs.Convert.{stored_outcome}
use Rattle.file_commands.specs.Romfs.{sized_outcome, treed_outcome, filed_outcome, lined_outcome, romfs_outcome}
use Rattle.file_commands.specs.Delivery.{TookAll}
use Rattle.suite_top.specs.Call.{Call, outcome_of}
use Rattle.suite_top.specs.StatusLaws.{IsAnswer}
use Rattle.command_laws.specs.RunLaws.{IsStop}
use Rattle.command_laws.specs.RomfsLaws.{IsRomfs, Makes, nodes_in, made_outcome, RomfsIsDone, RomfsChangesOneFile, RomfsIsRefused, RomfsCompletes}
use Rattle.suite_top.proofs.HostLaws.{asked_after, loads_keep, stores_are_whole}
use Rattle.suite_top.proofs.ImageOutcomes.{romfs_by}
use Rattle.suite_top.proofs.StatusLaws.{completes}
use Rattle.command_laws.proofs.OneFileLaws.{outcome_is, shows}
use Rattle.suite_top.proofs.Opened.{is_within, loads_of, behind_all, items_there, within, items_within}

outcome_of_romfs : (c : Call) (t t_after : Told) (manifest image : List ℕ) → IsRomfs c t t_after manifest image → outcome_of c ≡ romfs_outcome manifest image (inputs_in t.files)
outcome_of_romfs c t t_after manifest image is = outcome_is c t t_after is.files (romfs manifest image) is.command

-- ---- from what is there to the outcome

sized_fits : (image : List ℕ) (count : ℕ) (text : List ℕ) → length text ≤ most_bytes → sized_outcome image count text ≡ stored_outcome image text (image_line count (length text))
sized_fits image count text small =
    let fits : nat_lt most_bytes (length text) ≡ false = grind (arith, nat_tests) in
    ap (λ (b : Bool). cond b (at_once (refused_ending too_large_tail)) (stored_outcome image text (image_line count (length text)))) fits

made_where_it_can : (t : Files) (name image : List ℕ) (o : Makes t name) → romfs_outcome name image (inputs_in t) ≡ made_outcome image o
unfolding romfs_outcome filed_outcome
made_where_it_can t name image o =
    ap (after (load name))
    (is_within manifest_limit None name (get t name) o.text (λ bytes. lined_outcome image (tree_manifest_of bytes) (inputs_in t)) o.found o.fits
    ∙ ap (λ (r : Result Manifest Fault). lined_outcome image r (inputs_in t)) o.reads
    ∙ items_there (inputs_in t) files_limit o.manifest.items o.files (filed_outcome image o.manifest.items) o.there
    ∙ ap (behind_all o.manifest.items)
    (ap (treed_outcome image) o.brings ∙ sized_fits image (length (nodes_in o)) (rom_text (nodes_in o)) o.small))

-- ---- from the status to what is there

ok_lines : (t : Files) (image : List ℕ) (r : Result Manifest Fault) → IsStop (lined_outcome image r (inputs_in t)).ending.status
    → (m : Manifest) × (r ≡ Ok m) × IsStop (with_items files_limit m.items (filed_outcome image m.items) (inputs_in t)).ending.status
ok_lines t image (Err fault) stop = absurd stop
ok_lines t image (Ok m) stop = (m, refl, stop)

ok_size : (image : List ℕ) (count : ℕ) (text : List ℕ) → IsStop (sized_outcome image count text).ending.status → length text ≤ most_bytes
ok_size image count text stop = by_test (nat_lt most_bytes (length text)) refl stop
  where
    by_test : (b : Bool) → nat_lt most_bytes (length text) ≡ b
        → IsStop (cond b (at_once (refused_ending too_large_tail)) (stored_outcome image text (image_line count (length text)))).ending.status → length text ≤ most_bytes
    by_test true is stops = absurd stops
    by_test false is stops = grind (arith, nat_tests)

ok_tree : (image : List ℕ) (r : Result Brought FaultAt) → IsStop (treed_outcome image r).ending.status → (b : Brought) × (r ≡ Ok b) × (length (rom_text (tree_nodes b.tree)) ≤ most_bytes)
ok_tree image (Err at) stop = absurd stop
ok_tree image (Ok b) stop = (b, refl, ok_size image (length (tree_nodes b.tree)) (rom_text (tree_nodes b.tree)) stop)

makes_where_it_stops : (t : Files) (name image : List ℕ) → IsStop (romfs_outcome name image (inputs_in t)).ending.status → Makes t name
unfolding romfs_outcome filed_outcome
makes_where_it_stops t name image stop =
    let (text, found, fits, reads_on) = within manifest_limit None name (get t name) (λ bytes. lined_outcome image (tree_manifest_of bytes) (inputs_in t)) stop in
    let (m, reads, loads_on) = ok_lines t image (tree_manifest_of text) reads_on in
    let (files, there, makes_on) = items_within (inputs_in t) files_limit m.items (filed_outcome image m.items) loads_on in
    let (brought, brings, small) = ok_tree image (all_brought m.items files nothing_brought) makes_on in
    record { text = text; found = found; fits = fits; manifest = m; reads = reads; files = files; there = there; brought = brought; brings = brings; small = small }

-- ---- the whole tree

abbrev is_there : Option Inode → ℕ
is_there n = cond (is_some n) 1 0

abbrev is_linked : Option Inode → ℕ
is_linked n = cond (linked_in n) 1 0

one_few : (n : Option Inode) → is_linked n ≤ is_there n
one_few None = omega arith
one_few (Some n) = by_test n.linked
  where
    by_test : (b : Bool) → cond b 1 0 ≤ 1
    by_test true = omega arith
    by_test false = omega arith

-- a node that a folder names is there
named_few : (ns : Inodes) → named_count ns ≤ node_count ns
named_few [] = omega arith
named_few (n ∷ ns) = omega (arith, sum_by-cons is_linked n ns, sum_by-cons is_there n ns, one_few n, named_few ns)

-- what lines bring in is a tree with no more nodes than the walk takes steps
is_whole : (t : Files) (name : List ℕ) (o : Makes t name) → length (nodes_in o) + 1 ≡ named_count o.brought.tree
unfolding tree_nodes
is_whole t name o =
    let few = lines_few o.manifest.items o.files o.brought o.brings in
    whole o.brought.tree (lines_tree o.manifest.items o.files o.brought o.brings) most_nodes (omega (arith, few, named_few o.brought.tree))

-- ---- what is stored

stored_last : (items : List Item) (t : Told) (name bytes : List ℕ) → (after_answers t (loads_of items ++ store name bytes ∷ [])).files ≡ insert t.files name bytes
stored_last [] t name bytes = refl
stored_last (item ∷ items) t name bytes = by_kind (has_file item.kind) (stored_last items (after_answer t (load item.name)) name bytes) (stored_last items t name bytes)
  where
    by_kind : (b : Bool) → (after_answers (after_answer t (load item.name)) (loads_of items ++ store name bytes ∷ [])).files ≡ insert t.files name bytes
        → (after_answers t (loads_of items ++ store name bytes ∷ [])).files ≡ insert t.files name bytes
        → (after_answers t (map (λ i. load i.name) (cond b (item ∷ filter (λ i. has_file i.kind) items) (filter (λ i. has_file i.kind) items)) ++ store name bytes ∷ [])).files ≡ insert t.files name bytes
    by_kind true loaded passed = loaded
    by_kind false loaded passed = passed

pub romfs_is_done : RomfsIsDone
romfs_is_done c t t_after manifest image is status =
    let at = outcome_of_romfs c t t_after manifest image is in
    let answer = subst IsAnswer (sym status) tt in
    let ends = sym (shows c t t_after is.files (romfs_outcome manifest image (inputs_in t.files)) at answer).status ∙ status in
    let o = makes_where_it_stops t.files manifest image (subst IsStop (sym ends) tt) in
    let s = shows c t t_after is.files (made_outcome image o) (at ∙ made_where_it_can t.files manifest image o) answer in
    record {
      makes = o;
      whole = is_whole t.files manifest o;
      files = ap (λ (u : Told). u.files) s.told ∙ stored_last o.manifest.items (after_answer t (load manifest)) image (rom_text (nodes_in o));
      asked = ap (λ (u : Told). u.asked) s.told ∙ asked_after (made_outcome image o).requests t;
      out = s.out;
      report = s.report;
    }

pub romfs_completes : RomfsCompletes
romfs_completes c t t_after manifest image is o calm =
    elim (completes c is.files.meets calm) [
      | inl memory ↦ inl memory
      | inr whole ↦ inr (whole.status ∙ ap (λ (x : Outcome). x.ending.status) (outcome_of_romfs c t t_after manifest image is ∙ made_where_it_can t.files manifest image o))
    ]

-- ---- an outcome that stores nothing

abbrev Stores : Outcome → Type 0
Stores o = AreLoads o.requests ⊎ IsStop o.ending.status

stores : (manifest image : List ℕ) (t : Files) → Stores (romfs_outcome manifest image (inputs_in t))
stores manifest image t = romfs_by Stores (λ name o has. has) (λ name. inl tt) (λ tail. inl tt) image (λ bytes line. inr tt) manifest (inputs_in t)

pub romfs_changes_one_file : RomfsChangesOneFile
romfs_changes_one_file c t t_after manifest image is =
    let at = outcome_of_romfs c t t_after manifest image is in
    elim (stores_are_whole c t t_after is.files.meets is.files.told is.files.told_after) [
      | inl same ↦ inl same
      | inr all ↦
          let made = all ∙ ap (λ (x : Outcome). (after_answers t x.requests).files) at in
          elim (stores manifest image t.files) [
            | inl loads ↦ inl (made ∙ loads_keep (romfs_outcome manifest image (inputs_in t.files)).requests t loads)
            | inr stop ↦
                let o = makes_where_it_stops t.files manifest image stop in
                inr (
                  o,
                  made ∙ ap (λ (x : Outcome). (after_answers t x.requests).files) (made_where_it_can t.files manifest image o)
                      ∙ stored_last o.manifest.items (after_answer t (load manifest)) image (rom_text (nodes_in o)),
                )
          ]
    ]

abbrev Refuses : Outcome → Type 0
Refuses o = o.ending.status ≡ Refused → AreLoads o.requests × (tail : List ℕ) × (o.ending ≡ refused_ending tail)

refuses : (manifest image : List ℕ) (t : Files) → Refuses (romfs_outcome manifest image (inputs_in t))
refuses manifest image t =
    romfs_by Refuses (λ name o has. has) (λ name status. absurd (let h : HostRead ≡ Refused = status in cc)) (λ tail status. (tt, tail, refl)) image
    (λ bytes line status. absurd (let h : Done ≡ Refused = status in cc)) manifest (inputs_in t)

pub romfs_is_refused : RomfsIsRefused
romfs_is_refused c t t_after manifest image is status =
    let at = outcome_of_romfs c t t_after manifest image is in
    let x = romfs_outcome manifest image (inputs_in t.files) in
    let s = shows c t t_after is.files x at (subst IsAnswer (sym status) tt) in
    let (loads, tail, ending) = refuses manifest image t.files (sym s.status ∙ status) in
    record {
      tail = tail;
      first = ap (λ (y : Outcome). y.ending) at ∙ ending;
      files = ap (λ (u : Told). u.files) s.told ∙ loads_keep x.requests t loads;
      out = subst (λ (e : Ending). TookAll c.out c.out_after e.out) ending s.out;
      report = subst (λ (e : Ending). TookAll c.report c.report_after e.report) ending s.report;
    }

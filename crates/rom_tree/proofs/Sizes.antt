-- How many nodes stand in and under each node: the walk takes as many steps, and under the root stand all.
use Rattle.std.proofs.Common.{◌≡◌, ℕ, zero, suc, ◌+◌, ◌<◌, ◌≤◌, Bool, true, false, cond, not, List, [], ◌∷◌, ◌++◌, length, Option, None, refl, sym, ap, subst, ◌∙◌, arith, eq-eqb}
use Rattle.std.specs.Prelude.{◌==◌, ◌&&◌, nat_lt}
use Rattle.std.specs.List.{sum_by}
use Rattle.std.proofs.lemmas.Bool.{ne_eqb, ltb-true, ltb-false}
use Rattle.std.proofs.lemmas.Bool.Decides.{nat_tests}
use Rattle.std.proofs.lemmas.List.Sums.{sum_by-cons, sum_by-append}
use Rattle.mem_files.specs.Inodes.{Entry, Inode, Inodes, root, inode_at, content_in, entries_in, entries_of}
use Rattle.mem_files.specs.Trees.{linked_in, is_named, leading, links_in, link_count, IsTree}
use Rattle.rom_tree.specs.Nodes.{Waiting, waiting_in, walk}
use Rattle.rom_tree.specs.Laws.{named_count}

-- ---- sums over the numbers below a bound

abbrev below_sum : (ℕ → ℕ) → ℕ → ℕ
below_sum f zero = 0
below_sum f (suc m) = f 0 + below_sum (λ k. f (suc k)) m

sum_alike : (f g : ℕ → ℕ) (m : ℕ) → ((k : ℕ) → f k ≡ g k) → below_sum f m ≡ below_sum g m
sum_alike f g zero each = refl
sum_alike f g (suc m) each = omega (arith, each 0, sum_alike (λ k. f (suc k)) (λ k. g (suc k)) m (λ k. each (suc k)))

sum_both : (f g : ℕ → ℕ) (m : ℕ) → below_sum (λ k. f k + g k) m ≡ below_sum f m + below_sum g m
sum_both f g zero = refl
sum_both f g (suc m) = omega (arith, sum_both (λ k. f (suc k)) (λ k. g (suc k)) m)

sum_none : (m : ℕ) → below_sum (λ k. 0) m ≡ 0
sum_none zero = refl
sum_none (suc m) = omega (arith, sum_none m)

same_behind : (a k : ℕ) → (suc a == suc k) ≡ (a == k)
same_behind a k = grind (arith, nat_tests)

-- of one number alone
sum_one : (f : ℕ → ℕ) (a m : ℕ) → a < m → below_sum (λ k. cond (a == k) (f k) 0) m ≡ f a
sum_one f a zero inside = absurd (omega (arith, inside))
sum_one f zero (suc m) inside =
    let here : cond (0 == 0) (f 0) 0 ≡ f 0 = ap (λ (b : Bool). cond b (f 0) 0) (eq-eqb 0 0 refl) in
    let other : (k : ℕ) → cond (0 == suc k) (f (suc k)) 0 ≡ 0 = λ k. ap (λ (b : Bool). cond b (f (suc k)) 0) (ne_eqb 0 (suc k) (λ e. omega (arith, e))) in
    omega (arith, here, sum_alike (λ k. cond (0 == suc k) (f (suc k)) 0) (λ k. 0) m other, sum_none m)
sum_one f (suc a) (suc m) inside =
    let here : cond (suc a == 0) (f 0) 0 ≡ 0 = ap (λ (b : Bool). cond b (f 0) 0) (ne_eqb (suc a) 0 (λ e. omega (arith, e))) in
    let other : (k : ℕ) → cond (suc a == suc k) (f (suc k)) 0 ≡ cond (a == k) (f (suc k)) 0 = λ k. ap (λ (b : Bool). cond b (f (suc k)) 0) (same_behind a k) in
    omega (
      arith,
      here,
      sum_alike (λ k. cond (suc a == suc k) (f (suc k)) 0) (λ k. cond (a == k) (f (suc k)) 0) m other,
      sum_one (λ k. f (suc k)) a m (omega (arith, inside)),
    )

-- over the places of a list
sum_places : (f : Option Inode → ℕ) (ns : Inodes) → below_sum (λ k. f (inode_at ns k)) (length ns) ≡ sum_by f ns
sum_places f [] = refl
sum_places f (n ∷ ns) = omega (arith, sum_by-cons f n ns, sum_places f ns)

past_end : (ns : Inodes) (k : ℕ) → length ns ≤ k → inode_at ns k ≡ None
past_end [] k past = refl
past_end (m ∷ ns) zero past = absurd (omega (arith, past))
past_end (m ∷ ns) (suc k) past = past_end ns k (omega (arith, past))

-- ---- weights, each as often as entries lead to its number

abbrev times : ℕ → ℕ → ℕ
times zero x = 0
times (suc n) x = x + times n x

times_both : (a b x : ℕ) → times (a + b) x ≡ times a x + times b x
times_both zero b x = let same : 0 + b ≡ b = omega arith in omega (arith, ap (λ n. times n x) same)
times_both (suc a) b x = let same : suc a + b ≡ suc (a + b) = omega arith in omega (arith, ap (λ n. times n x) same, times_both a b x)

times_one : (b : Bool) (x : ℕ) → times (cond b 1 0) x ≡ cond b x 0
times_one true x = omega arith
times_one false x = refl

abbrev leads : ℕ → Entry → ℕ
leads k e = cond (e.id == k) 1 0

module _ (s : ℕ → ℕ) where
  abbrev weight : List Entry → ℕ
  weight es = sum_by (λ e. s e.id) es

  abbrev weight_in : Option Inode → ℕ
  weight_in node = weight (entries_in (content_in node))

  -- by the numbers that entries lead to
  by_numbers : (m : ℕ) (es : List Entry) → ((k : ℕ) → 1 ≤ leading k es → k < m) → weight es ≡ below_sum (λ k. times (leading k es) (s k)) m
  by_numbers m [] inside = sym (sum_none m)
  by_numbers m (e ∷ es) inside =
      let here : leads e.id e ≡ 1 = ap (λ (b : Bool). cond b 1 0) (eq-eqb e.id e.id refl) in
      let each : (k : ℕ) → times (leading k (e ∷ es)) (s k) ≡ cond (e.id == k) (s k) 0 + times (leading k es) (s k) =
      λ k. ap (λ n. times n (s k)) (sum_by-cons (leads k) e es) ∙ times_both (leads k e) (leading k es) (s k) ∙ ap (λ n. n + times (leading k es) (s k)) (times_one (e.id == k) (s k)) in
      omega (
        arith,
        sum_by-cons (λ (f : Entry). s f.id) e es,
        by_numbers m es (λ k one. inside k (omega (arith, sum_by-cons (leads k) e es, one))),
        sum_alike (λ k. times (leading k (e ∷ es)) (s k)) (λ k. cond (e.id == k) (s k) 0 + times (leading k es) (s k)) m each,
        sum_both (λ k. cond (e.id == k) (s k) 0) (λ k. times (leading k es) (s k)) m,
        sum_one s e.id m (inside e.id (omega (arith, sum_by-cons (leads e.id) e es, here))),
      )

  -- those of all folders
  all_by_numbers : (m : ℕ) (ns : Inodes) → ((k : ℕ) → 1 ≤ link_count ns k → k < m) → sum_by weight_in ns ≡ below_sum (λ k. times (link_count ns k) (s k)) m
  all_by_numbers m [] inside = sym (sum_none m)
  all_by_numbers m (n ∷ ns) inside =
      let each : (k : ℕ) → times (link_count (n ∷ ns) k) (s k) ≡ times (links_in k n) (s k) + times (link_count ns k) (s k) =
      λ k. ap (λ c. times c (s k)) (sum_by-cons (links_in k) n ns) ∙ times_both (links_in k n) (link_count ns k) (s k) in
      omega (
        arith,
        sum_by-cons weight_in n ns,
        by_numbers m (entries_in (content_in n)) (λ k one. inside k (omega (arith, sum_by-cons (links_in k) n ns, one))),
        all_by_numbers m ns (λ k one. inside k (omega (arith, sum_by-cons (links_in k) n ns, one))),
        sum_alike (λ k. times (link_count (n ∷ ns) k) (s k)) (λ k. times (links_in k n) (s k) + times (link_count ns k) (s k)) m each,
        sum_both (λ k. times (links_in k n) (s k)) (λ k. times (link_count ns k) (s k)) m,
      )

-- ---- the size of a node: itself, and the sizes of what is in it

abbrev size_by : (depth : ℕ) → Inodes → ℕ → ℕ
size_by zero ns id = 1
size_by (suc depth) ns id = 1 + sum_by (λ (e : Entry). size_by depth ns e.id) (entries_of ns id)

alike : (f g : ℕ → ℕ) (at : ℕ) (es : List Entry) → ((k : ℕ) → at < k → f k ≡ g k) → ((k : ℕ) → 1 ≤ leading k es → at < k) → weight f es ≡ weight g es
alike f g at [] each above = refl
alike f g at (e ∷ es) each above =
    let here : leads e.id e ≡ 1 = ap (λ (b : Bool). cond b 1 0) (eq-eqb e.id e.id refl) in
    omega (
      arith,
      sum_by-cons (λ (x : Entry). f x.id) e es,
      sum_by-cons (λ (x : Entry). g x.id) e es,
      each e.id (above e.id (omega (arith, sum_by-cons (leads e.id) e es, here))),
      alike f g at es each (λ k one. above k (omega (arith, sum_by-cons (leads k) e es, one))),
    )

module _ (ns : Inodes) (tree : IsTree ns) where
  no_entries : (id : ℕ) → length ns ≤ id → entries_of ns id ≡ []
  no_entries id past = ap (λ (n : Option Inode). entries_in (content_in n)) (past_end ns id past)

  -- a path is no longer than the numbers behind its first
  deep_enough : (a b id : ℕ) → length ns ≤ a + id → length ns ≤ b + id → size_by a ns id ≡ size_by b ns id
  deep_enough zero zero id p q = refl
  deep_enough zero (suc b) id p q = ap (λ (es : List Entry). 1 + weight (size_by b ns) es) (sym (no_entries id (omega (arith, p))))
  deep_enough (suc a) zero id p q = ap (λ (es : List Entry). 1 + weight (size_by a ns) es) (no_entries id (omega (arith, q)))
  deep_enough (suc a) (suc b) id p q =
      ap (λ n. 1 + n) (alike (size_by a ns) (size_by b ns) id (entries_of ns id) (λ k over. deep_enough a b k (omega (arith, p, over)) (omega (arith, q, over))) (λ k one. tree.below k id one))

  abbrev size : ℕ → ℕ
  size id = size_by (suc (length ns)) ns id

  size_is : (id : ℕ) → size id ≡ 1 + weight size (entries_of ns id)
  size_is id =
      ap (λ n. 1 + n) (alike (size_by (length ns) ns) size id (entries_of ns id) (λ k over. deep_enough (length ns) (suc (length ns)) k (omega arith) (omega arith)) (λ k one. tree.below k id one))

  -- ---- the size of the root

  inside_by : (k : ℕ) (b : Bool) → nat_lt k (length ns) ≡ b → is_named ns k ≡ true → k < length ns
  inside_by k true is named = ltb-true k (length ns) is
  inside_by k false is named =
      let none : is_named ns k ≡ false = ap linked_in (past_end ns k (ltb-false k (length ns) is)) in
      let no : true ≡ false = sym named ∙ none in
      absurd (cc)

  inside : (k : ℕ) → is_named ns k ≡ true → k < length ns
  inside k named = inside_by k (nat_lt k (length ns)) refl named

  -- counted by nodes
  by_node : (k : ℕ) (named : Bool) → is_named ns k ≡ named → cond named (size k) 0 ≡ cond named 1 0 + weight_in size (inode_at ns k)
  by_node k true is = size_is k
  by_node k false is = let none : weight size (entries_of ns k) ≡ 0 = ap (weight size) (tree.empty k is) in omega (arith, none)

  -- counted by entries
  by_entry : (k : ℕ) (named at_root : Bool) → is_named ns k ≡ named → (root == k) ≡ at_root → cond named (size k) 0 ≡ times (cond (named && not at_root) 1 0) (size k) + cond at_root (size k) 0
  by_entry k true true is same = omega arith
  by_entry k true false is other = omega arith
  by_entry k false true is same =
      let at : root ≡ k = grind (arith, nat_tests, same) in
      let named : is_named ns k ≡ true = subst (λ (j : ℕ). is_named ns j ≡ true) at tree.root_named in
      let no : true ≡ false = sym named ∙ is in
      absurd (cc)
  by_entry k false false is other = omega arith

  turned : (k : ℕ) → (k == root) ≡ (root == k)
  turned k = grind (arith, nat_tests)

  links : (k : ℕ) → times (cond (is_named ns k && not (root == k)) 1 0) (size k) ≡ times (link_count ns k) (size k)
  links k = ap (λ (b : Bool). times (cond (is_named ns k && not b) 1 0) (size k)) (sym (turned k)) ∙ ap (λ n. times n (size k)) (sym (tree.once k))

  linked_inside : (k : ℕ) → 1 ≤ link_count ns k → k < length ns
  linked_inside k one = by_name (is_named ns k) refl
    where
      by_name : (named : Bool) → is_named ns k ≡ named → k < length ns
      by_name true is = inside k is
      by_name false is =
          let none : link_count ns k ≡ 0 = tree.once k ∙ ap (λ (b : Bool). cond (b && not (k == root)) 1 0) is in
          absurd (omega (arith, one, none))

  root_size : size root ≡ named_count ns
  root_size =
      let all : ℕ → ℕ = λ k. cond (is_named ns k) (size k) 0 in
      let ones : ℕ → ℕ = λ k. cond (is_named ns k) 1 0 in
      let under : ℕ → ℕ = λ k. weight_in size (inode_at ns k) in
      let linked : ℕ → ℕ = λ k. times (link_count ns k) (size k) in
      let first : ℕ → ℕ = λ k. cond (root == k) (size k) 0 in
      let m : ℕ = length ns in
      let nodes : below_sum all m ≡ below_sum ones m + below_sum under m =
      sum_alike all (λ k. ones k + under k) m (λ k. by_node k (is_named ns k) refl) ∙ sum_both ones under m in
      let entries : below_sum all m ≡ below_sum linked m + below_sum first m =
      sum_alike all (λ k. linked k + first k) m (λ k. by_entry k (is_named ns k) (root == k) refl refl ∙ ap (λ n. n + first k) (links k)) ∙ sum_both linked first m in
      let named : below_sum ones m ≡ named_count ns = sum_places (λ n. cond (linked_in n) 1 0) ns in
      let same : below_sum under m ≡ below_sum linked m = sum_places (weight_in size) ns ∙ all_by_numbers size m ns linked_inside in
      let alone : below_sum first m ≡ size root = sum_one size root m (inside root tree.root_named) in
      omega (arith, nodes, entries, named, same, alone)

  -- ---- the walk

  abbrev size_of_waiting : List Waiting → ℕ
  size_of_waiting left = sum_by (λ (w : Waiting). size w.entry.id) left

  in_folder : (number : ℕ) (es : List Entry) → size_of_waiting (waiting_in number es) ≡ weight size es
  in_folder number [] = refl
  in_folder number (e ∷ es) =
      let w : Waiting = record { parent = number; entry = e } in
      omega (arith, sum_by-cons (λ (v : Waiting). size v.entry.id) w (waiting_in number es), sum_by-cons (λ (f : Entry). size f.id) e es, in_folder number es)

  walk_takes : (steps number : ℕ) (left : List Waiting) → size_of_waiting left ≤ steps → length (walk steps ns number left) ≡ size_of_waiting left
  walk_takes zero number left few = omega (arith, few)
  walk_takes (suc steps) number [] few = refl
  walk_takes (suc steps) number (w ∷ left) few =
      let es : List Entry = entries_of ns w.entry.id in
      let next : List Waiting = waiting_in number es ++ left in
      let here : size_of_waiting (w ∷ left) ≡ 1 + size_of_waiting next = omega (
        arith,
        sum_by-cons (λ (v : Waiting). size v.entry.id) w left,
        size_is w.entry.id,
        in_folder number es,
        sum_by-append (λ (v : Waiting). size v.entry.id) (waiting_in number es) left,
      ) in
      omega (arith, here, walk_takes steps (number + 1) next (omega (arith, here, few)))

  -- the walk from the root ends where it may take as many steps as there are nodes
  pub whole : (steps : ℕ) → named_count ns ≤ steps → length (walk steps ns 1 (waiting_in 0 (entries_of ns root))) + 1 ≡ named_count ns
  whole steps fits =
      let first : size_of_waiting (waiting_in 0 (entries_of ns root)) + 1 ≡ named_count ns = omega (arith, in_folder 0 (entries_of ns root), size_is root, root_size) in
      omega (arith, first, walk_takes steps 1 (waiting_in 0 (entries_of ns root)) (omega (arith, first, fits)))

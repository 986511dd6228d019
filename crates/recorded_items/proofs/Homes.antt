-- Who is in a space after one note more.
use Rattle.std.proofs.Common.{subst, ◌≡◌, ℕ, ◌+◌, Bool, true, false, List, [], ◌∷◌, Option, Some, refl, sym, ap, ◌∙◌}
use Rattle.std.specs.Prelude.{◌==◌, ◌&&◌, nat_eq, if◌then◌else◌}
use Rattle.std.specs.List.{list_any}
use Rattle.call_log.specs.Notes.{CallEntry, LoadEntry, Note, call_note, load_note, end_note, stray_note}
use Rattle.call_log.specs.declared.how.How.{How}
use Rattle.byte_words.specs.declared.access.Access.{Access}
use Rattle.indexmap.specs.IndexSet.{IndexSet, IsEmpty}
use Rattle.recording_laws.specs.Homes.{forks, loads_in, home, is_in}
use Rattle.recorded_items.specs.Members.{is_member, Puts, Follow}

in_if : (space : ℕ) (b : Bool) (o other : Option ℕ) → (if b then is_in space o else is_in space other) ≡ is_in space (if b then o else other)
in_if space true o other = refl
in_if space false o other = refl

module _ {S : Type 0} (space own count : ℕ) (pids : IndexSet ℕ S) (notes : List Note) (f : Follow space own count pids notes) where
  pub after_load : (l : LoadEntry) (now : IndexSet ℕ S) → Puts l.pid (count == own) pids now → Follow space own (count + 1) now (load_note l ∷ notes)
  unfolding loads_in home
  after_load l now put = record {
    same = f.same;
    loads = ap (λ n. n + 1) f.loads;
    homes = λ x.
        put x
        ∙ (λ i. if l.pid == x then f.loads i == f.same i else f.homes x i)
        ∙ in_if space (l.pid == x) (Some (loads_in notes)) (home x notes);
  }

  pub after_fork : (e : CallEntry) (now : IndexSet ℕ S) → forks e ≡ true → Puts e.reply (is_member e.pid pids) pids now → Follow space own count now (call_note e ∷ notes)
  unfolding loads_in home
  after_fork e now forked put = record {
    same = f.same;
    loads = f.loads;
    homes = λ x.
        put x
        ∙ (λ i. if e.reply == x then f.homes e.pid i else f.homes x i)
        ∙ in_if space (e.reply == x) (home e.pid notes) (home x notes)
        ∙ ap (λ b. is_in space (if b && (e.reply == x) then home e.pid notes else home x notes)) (sym forked);
  }

  pub after_call : (e : CallEntry) → forks e ≡ false → Follow space own count pids (call_note e ∷ notes)
  unfolding loads_in home
  after_call e plain = record {
    same = f.same;
    loads = f.loads;
    homes = λ x. f.homes x ∙ ap (λ b. is_in space (if b && (e.reply == x) then home e.pid notes else home x notes)) (sym plain);
  }

  pub after_end : (pid : ℕ) (how : How) → Follow space own count pids (end_note pid how ∷ notes)
  unfolding loads_in home
  after_end pid how = record { same = f.same; loads = f.loads; homes = f.homes }

  pub after_stray : (pid : ℕ) (seen : Access) → Follow space own count pids (stray_note pid seen ∷ notes)
  unfolding loads_in home
  after_stray pid seen = record { same = f.same; loads = f.loads; homes = f.homes }

pub at_first : {S : Type 0} (space : ℕ) (pids : IndexSet ℕ S) → IsEmpty pids → Follow space space 0 pids []
unfolding loads_in home
at_first space pids none = record { same = refl; loads = refl; homes = λ x. ap (list_any (nat_eq x)) none }

-- as the code has it
pub becomes : {S : Type 0} {space own count : ℕ} {pids : IndexSet ℕ S} {notes : List Note} {note one : Note} → one ≡ note → Follow space own count pids (note ∷ notes)
    → Follow space own count pids (one ∷ notes)
becomes {S} {space} {own} {count} {pids} {notes} {note} {one} is f = subst (λ n. Follow space own count pids (n ∷ notes)) (sym is) f

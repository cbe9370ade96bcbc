-- The cells of a history by its committed edits alone.
use Rattle.std.proofs.Common.{◌≡◌, ℕ, ◌<◌, Bool, true, false, cond, eqb, List, [], ◌∷◌, ◌++◌, length, get_or, set, Some, None, Ok, Err, Option, Result, unwrap_or, sym, refl, ap, ◌∙◌, ⊎_elim, arith, length-set}
use Rattle.std.proofs.lemmas.List.{get_or-set_same, get_or-set_other}
use Rattle.std.proofs.lemmas.Bool.{cases_eq, eq-eqb, ne_eqb}
use Rattle.refusal.specs.declared.refusal.Refusal.{Refusal}
use Rattle.refusal.specs.declared.refusal.Refusal.TheVariants.{NotChecked}
use Rattle.store.specs.declared.entry.Entry.{Entry}
use Rattle.edit.specs.Drafts.{Draft, overwritten}
use Rattle.edit.proofs.Tabled.{overwritten_length}
use Rattle.orders.specs.declared.command.Command.{Command}
use Rattle.orders.specs.declared.command.Command.TheVariants as command
use Rattle.orders.specs.Form.{Form, Placed, form}
use Rattle.engine.specs.Book.{State, commit_cells}
use Rattle.engine.specs.Book as engine
use Rattle.runner.specs.Run.{undone, went, run_state, order_state}
use Rattle.history.specs.declared.calls.Call.{Call}
use Rattle.history.specs.declared.calls.Call.TheVariants as call
use Rattle.history.specs.Book.{step, kept}
use Rattle.archive.specs.Commits.{if_marked, commit_of, unless_refused, run_commits, order_commits, commits_of, commits, or_else, value_for, last_value, OverwrittenBy}

-- the cells with one edit after another written into them
abbrev all : List ℕ → List (List Entry) → List ℕ
all cs [] = cs
all cs (es ∷ ess) = all (overwritten cs es) ess

all-++ : (cs : List ℕ) (a b : List (List Entry)) → all cs (a ++ b) ≡ all (all cs a) b
all-++ cs [] b = refl
all-++ cs (es ∷ a) b = all-++ (overwritten cs es) a b

marked_cells : (cs : List ℕ) (es : List Entry) (b : Bool) → cond b (overwritten cs es) cs ≡ all cs (cond b (es ∷ []) [])
marked_cells cs es true = refl
marked_cells cs es false = refl

commit_cells_lem : (cs : List ℕ) (d : Option Draft) → commit_cells cs d ≡ all cs (if_marked d)
commit_cells_lem cs None = refl
commit_cells_lem cs (Some d) = marked_cells cs d.entries d.marked

command_cells : (s : State) (c : Command) → (engine.step s c).cells ≡ all s.cells (commit_of s c)
command_cells s command.Open = refl
command_cells s (command.Put c v) = refl
command_cells s command.Check = refl
command_cells s command.Commit = commit_cells_lem s.cells s.edit
command_cells s command.Discard = refl

-- a refused command writes nothing
unmarked : (cs : List ℕ) (es : List Entry) (b : Bool) (r : Refusal) → ◌≡◌ {A = Result (Unit {0}) Refusal} (cond b (Ok tt) (Err NotChecked)) (Err r) → cond b (overwritten cs es) cs ≡ cs
unmarked cs es true r e = let y : ◌≡◌ {A = ℕ} 0 1 = cc in absurd (omega arith)
unmarked cs es false r e = refl

refused_commit : (cs : List ℕ) (d : Option Draft) (r : Refusal) → engine.commit_answer d ≡ Err r → commit_cells cs d ≡ cs
refused_commit cs None r e = refl
refused_commit cs (Some d) r e = unmarked cs d.entries d.marked r e

refused_cells : (s : State) (c : Command) (r : Refusal) → engine.answer s c ≡ Err r → (undone c (engine.step s c)).cells ≡ s.cells
refused_cells s command.Open r e = refl
refused_cells s (command.Put c v) r e = refl
refused_cells s command.Check r e = refl
refused_cells s command.Commit r e = refused_commit s.cells s.edit r e
refused_cells s command.Discard r e = refl

run_on : (s : State) (x : Placed) (xs : List Placed) (r : Result (Unit {0}) Refusal) → engine.answer s x.command ≡ r
    → (run_state (engine.step s x.command) xs).cells ≡ all (engine.step s x.command).cells (run_commits (engine.step s x.command) xs)
    → (went r (run_state (engine.step s x.command) xs) (undone x.command (engine.step s x.command))).cells
    ≡ all s.cells (unless_refused r (commit_of s x.command ++ run_commits (engine.step s x.command) xs))
run_on s x xs (Ok u) e h =
    h
    ∙ ap (λ (cs : List ℕ). all cs (run_commits (engine.step s x.command) xs)) (command_cells s x.command)
    ∙ sym (all-++ s.cells (commit_of s x.command) (run_commits (engine.step s x.command) xs))
run_on s x xs (Err r) e h = refused_cells s x.command r e

run_cells : (s : State) (xs : List Placed) → (run_state s xs).cells ≡ all s.cells (run_commits s xs)
unfolding run_state run_commits
run_cells s [] = refl
run_cells s (x ∷ xs) = run_on s x xs (engine.answer s x.command) refl (run_cells (engine.step s x.command) xs)

order_cells : (s : State) (f : Form) → (order_state s f).cells ≡ all s.cells (order_commits s f)
order_cells s (Ok xs) = run_cells s xs
order_cells s (Err p) = refl

call_cells : (s : State) (c : Call) → (step s c).cells ≡ all s.cells (commits_of s c)
call_cells s call.Look = refl
call_cells s (call.Set t) = refl
call_cells s (call.Pass n) = refl
call_cells s (call.Get c) = refl
call_cells s call.Open = refl
call_cells s (call.Put c v) = refl
call_cells s call.Check = refl
call_cells s call.Commit = commit_cells_lem s.cells s.edit
call_cells s call.Discard = refl
call_cells s call.Clear = refl
call_cells s (call.Run order) = order_cells s (form order.now)

kept_cells : (s : State) (calls : List Call) → (kept s calls).cells ≡ all s.cells (commits s calls)
unfolding commits
kept_cells s [] = refl
kept_cells s (c ∷ cs) =
    kept_cells (step s c) cs
    ∙ ap (λ (xs : List ℕ). all xs (commits (step s c) cs)) (call_cells s c)
    ∙ sym (all-++ s.cells (commits_of s c) (commits (step s c) cs))

-- cell by cell
one_value : (cs : List ℕ) (e : Entry) (c : ℕ) → c < length cs → get_or (set cs e.cell e.value) c 0 ≡ unwrap_or (cond (eqb e.cell c) (Some e.value) None) (get_or cs c 0)
one_value cs e c h =
    ⊎_elim
    (λ (same : c ≡ e.cell). let inside : e.cell < length cs = omega arith in
    ap (λ (k : ℕ). get_or (set cs e.cell e.value) k 0) same ∙ get_or-set_same cs e.cell e.value 0 inside
    ∙ sym (rw (eq-eqb e.cell c (sym same))))
    (λ (other : c ≡ e.cell → ⊥). get_or-set_other cs e.cell c e.value 0 other ∙ sym (rw (ne_eqb e.cell c (λ g. other (sym g)))))
    (cases_eq c e.cell)

later_or : (o p : Option ℕ) (x y : ℕ) → y ≡ unwrap_or p x → unwrap_or o y ≡ unwrap_or (or_else o p) x
later_or (Some v) p x y e = refl
later_or None p x y e = e

edit_value : (es : List Entry) (cs : List ℕ) (c : ℕ) → c < length cs → get_or (overwritten cs es) c 0 ≡ unwrap_or (value_for c es) (get_or cs c 0)
unfolding value_for
edit_value [] cs c h = refl
edit_value (e ∷ es) cs c h =
    let l = length-set cs e.cell e.value in
    edit_value es (set cs e.cell e.value) c (omega arith)
    ∙ later_or (value_for c es) (cond (eqb e.cell c) (Some e.value) None) (get_or cs c 0) (get_or (set cs e.cell e.value) c 0) (one_value cs e c h)

all_value : (ess : List (List Entry)) (cs : List ℕ) (c : ℕ) → c < length cs → get_or (all cs ess) c 0 ≡ unwrap_or (last_value c ess) (get_or cs c 0)
unfolding last_value
all_value [] cs c h = refl
all_value (es ∷ ess) cs c h =
    let l = overwritten_length cs es in
    all_value ess (overwritten cs es) c (omega arith)
    ∙ later_or (last_value c ess) (value_for c es) (get_or cs c 0) (get_or (overwritten cs es) c 0) (edit_value es cs c h)

all_length : (ess : List (List Entry)) (cs : List ℕ) → length (all cs ess) ≡ length cs
all_length [] cs = refl
all_length (es ∷ ess) cs = all_length ess (overwritten cs es) ∙ overwritten_length cs es

pub overwritten_by : (s : State) (calls : List Call) (cells : List ℕ) → cells ≡ (kept s calls).cells → OverwrittenBy (commits s calls) s.cells cells
overwritten_by s calls cells e =
    let f : cells ≡ all s.cells (commits s calls) = e ∙ kept_cells s calls in
    record {
      size = ap length f ∙ all_length (commits s calls) s.cells;
      cell = λ c h. ap (λ (xs : List ℕ). get_or xs c 0) f ∙ all_value (commits s calls) s.cells c h;
    }

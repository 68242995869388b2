-- A journal that is replayed: the calls carried out so far are a run.
use Rattle.std.proofs.lemmas.Grind.{common_steps}
use Rattle.std.proofs.Common.{rules, ◌≡◌, ℕ, ◌+◌, ◌<◌, ◌≤◌, cond, leb, ◌⊎◌, List, [], ◌∷◌, ◌++◌, map, length, get_or, take, drop, set, Some, None, Ok, Err, Option, Result, sym, refl, ap, ◌∙◌, inl, inr, arith}
use Rattle.std.specs.List.{slice_get}
use Rattle.std.proofs.Math.Seq.{take-nil}
use Rattle.std.proofs.lemmas.List.{append_assoc, length-map, length_push, length-take-le, map_push, take_more, take_all, drop_more, set_at}
use Rattle.rows.proofs.Properties.{row_within}
use Rattle.std.proofs.lemmas.Option.{none-some, gets}
use Rattle.book.specs.Meaning.{Meaning, Lawful}
use Rattle.table.specs.Cells.{used, laid}
use Rattle.table.specs.Calls.{Delivers, Withdraws}
use Rattle.table.specs.Runs.{CarriedOut, Run, Replayed}
use Rattle.table.specs.declared.refusals.Refusal.{Refusal}
use Rattle.table.specs.declared.journal.Call.{Call}
use Rattle.table.specs.declared.journal.Call.TheVariants.{Deliver, Withdraw, CountHeld, IsHeld, NthHeld}
use Rattle.table.specs.declared.journal.Answer.{Answer}
use Rattle.table.proofs.Cells.{used-laid, laid-laid}
use Rattle.table.proofs.Runs.{law_of_runs, after_each}
use Rattle.table.proofs.Determined.{only_one_run}

-- number j of the first i
nth_take : {X : Type 0} {x : X} (xs : List X) (i j : ℕ) → slice_get (take i xs) j ≡ Some x → slice_get xs j ≡ Some x
nth_take xs i j e = grind (arith, common_steps, gets)

-- number j of a list with one more at its end
nth_push : {X : Type 0} (xs : List X) (x y : X) (j : ℕ) → slice_get (xs ++ (x ∷ [])) j ≡ Some y → ((j < length xs) × (slice_get xs j ≡ Some y)) ⊎ ((j ≡ length xs) × (x ≡ y))
nth_push xs x y j e = grind (arith, common_steps, gets)

-- the facts after one call more
abbrev then_holds : (ℕ → List ℕ) → ℕ → List ℕ → ℕ → List ℕ
then_holds facts i new j = cond (leb j i) (facts j) new

module _ (facts : ℕ → List ℕ) (i : ℕ) (new : List ℕ) where
  holds_before : (j : ℕ) → j ≤ i → then_holds facts i new j ≡ facts j
  holds_before j h = search rules

  holds_after : then_holds facts i new (i + 1) ≡ new
  holds_after = search rules

-- what a call leaves fits if what was held did
fits_on : (m : Meaning) (size : ℕ) (old new : List ℕ) (call : Call) (answer : Answer) → CarriedOut m size old call new answer → length old ≤ size → length new ≤ size
fits_on m size old new (Deliver list) answer l h = delivered l.0 l.2 where
  delivered : (r : Result (ℕ × ℕ) Refusal) → Delivers m size list.now old new r → length new ≤ size
  delivered (Ok counts) d = d.fits
  delivered (Err e) d = omega (arith, ap length d.1)
fits_on m size old new (Withdraw list) answer l h = withdrawn l.0 l.2 where
  withdrawn : (r : Result (ℕ × ℕ) Refusal) → Withdraws m list.now old new r → length new ≤ size
  withdrawn (Ok counts) w = omega (arith, row_within new old w.0.leaves.ascends (λ c k. ((w.0.leaves.members c).0 k).0))
  withdrawn (Err e) w = omega (arith, ap length w.1)
fits_on m size old new CountHeld answer l h = omega (arith, ap length l.1)
fits_on m size old new (IsHeld c) answer l h = omega (arith, ap length l.1)
fits_on m size old new (NthHeld k) answer l h = omega (arith, ap length l.1)

run_more : (m : Meaning) (size i : ℕ) (calls : List Call) (answers : List Answer) (facts : ℕ → List ℕ) (call : Call) (answer : Answer) (new : List ℕ)
    → length calls ≡ i → Run m size calls answers facts → CarriedOut m size (facts i) call new answer → Run m size (calls ++ (call ∷ [])) (answers ++ (answer ∷ [])) (then_holds facts i new)
run_more m size i calls answers facts call answer new long run carried = record {
  all_answered = length_push answers answer ∙ omega (arith, run.all_answered, length_push calls call);
  none_at_first = holds_before facts i new 0 (omega arith) ∙ run.none_at_first;
  each_carried_out = λ j c a is_call is_answer. elim (nth_push calls call c j is_call) [
    | inl p ↦ elim (nth_push answers answer a j is_answer) [
      | inl q ↦
          let low : j < i = omega (arith, p.0) in
          rw (holds_before facts i new j (omega arith), holds_before facts i new (j + 1) (omega arith)) (run.each_carried_out j c a p.1 q.1)
      | inr q ↦ absurd (omega (arith, p.0, q.0, run.all_answered))
    ]
    | inr p ↦ elim (nth_push answers answer a j is_answer) [
      | inl q ↦ absurd (omega (arith, p.0, q.0, run.all_answered))
      | inr q ↦
          let e : j ≡ i = omega (arith, p.0) in
          rw (e, ← p.1, ← q.1, holds_before facts i new i (omega arith), holds_after facts i new) carried
    ]
  ];
}

-- The first i calls are carried out: on a table made over the cells `before`, which now has these cells and facts.
pub record Replaying (m : Meaning) (before : List ℕ) (calls : List Call) (given : List (Option Answer)) (cells held : List ℕ) (written : List (Option Answer)) (i : ℕ) : Type 0 where
  pub answers : List Answer
  pub facts : ℕ → List ℕ
  pub run : Run m (used before) (take i calls) answers facts
  pub holds : facts i ≡ held
  pub fits : length held ≤ used before
  pub laid_out : cells ≡ laid held before
  pub answered : written ≡ map Some (take (length given) answers) ++ drop i given

pub replaying_start : (m : Meaning) (before : List ℕ) (calls : List Call) (given : List (Option Answer)) (cells held : List ℕ) → held ≡ [] → cells ≡ laid [] before → Replaying m cells calls given cells held given 0
replaying_start m before calls given cells held none is = record {
  answers = [];
  facts = λ _. [];
  run = record { all_answered = refl; none_at_first = refl; each_carried_out = λ i c a h k. absurd (none-some _ h) };
  holds = sym none;
  fits = omega (arith, ap length none);
  laid_out = rw none (rw (← is) at (sym (laid-laid [] before (omega arith) [])));
  answered = ap (λ l. map Some l ++ given) (sym (take-nil (length given)));
}

-- one answer more, written if there is a place for it
written_more : (given : List (Option Answer)) (answers : List Answer) (written written' : List (Option Answer)) (i : ℕ) (answer : Answer) → length answers ≡ i
    → written ≡ map Some (take (length given) answers) ++ drop i given
    → ((i < length given) × (written' ≡ set written i (Some answer))) ⊎ ((length given ≤ i) × (written' ≡ written))
    → written' ≡ map Some (take (length given) (answers ++ (answer ∷ []))) ++ drop (i + 1) given
written_more given answers written written' i answer long was (inl p) =
    let here : take (length given) answers ≡ answers = take_all (length given) answers (omega (arith, p.0)) in
    let now : take (length given) (answers ++ (answer ∷ [])) ≡ answers ++ (answer ∷ []) = take_all (length given) (answers ++ (answer ∷ [])) (omega (arith, p.0, length_push answers answer)) in
    let n : length (map Some answers) ≡ i = length-map answers Some ∙ long in
    rw (p.1, was, here, now, drop_more given i None p.0, map_push Some answers answer, append_assoc (map Some answers) (Some answer ∷ []) (drop (i + 1) given)) (set_at (map Some answers) (get_or given i None) (drop (i + 1) given) (Some answer) i n)
written_more given answers written written' i answer long was (inr p) = grind (arith, common_steps)

pub replaying_more : (m : Meaning) (before : List ℕ) (calls : List Call) (given : List (Option Answer)) (cells held : List ℕ) (written written' : List (Option Answer)) (i : ℕ) (call : Call) (answer : Answer) (cells' held' : List ℕ)
    → i < length calls → ((d : Call) → get_or calls i d ≡ call)
    → ((i < length given) × (written' ≡ set written i (Some answer))) ⊎ ((length given ≤ i) × (written' ≡ written))
    → Replaying m before calls given cells held written i → CarriedOut m (used cells) held call held' answer → cells' ≡ laid held' cells
    → Replaying m before calls given cells' held' written' (i + 1)
replaying_more m before calls given cells held written written' i call answer cells' held' h is places was carried laid' =
    let size : used cells ≡ used before = ap used was.laid_out ∙ used-laid held before was.fits in
    let carried' : CarriedOut m (used before) held call held' answer = rw size at carried in
    let n : length (take i calls) ≡ i = length-take-le i calls (omega arith) in
    record {
      answers = was.answers ++ (answer ∷ []);
      facts = then_holds was.facts i held';
      run = rw (take_more calls i call h, is call) (run_more m (used before) i (take i calls) was.answers was.facts call answer held' n was.run (rw was.holds carried'));
      holds = holds_after was.facts i held';
      fits = fits_on m (used before) held held' call answer carried' was.fits;
      laid_out = laid' ∙ ap (laid held') was.laid_out ∙ laid-laid held before was.fits held';
      answered = written_more given was.answers written written' i answer (was.run.all_answered ∙ n) was.answered places;
    }

-- the facts of a run fit into its cells after each call
run_fits : (m : Meaning) (size : ℕ) (calls : List Call) (answers : List Answer) (facts : ℕ → List ℕ) → Run m size calls answers facts → (i : ℕ) → i ≤ length calls → length (facts i) ≤ size
run_fits m size calls answers facts run =
    after_each m size calls answers facts run (λ l. length l ≤ size) (omega arith) (λ old call new answer. fits_on m size old new call answer)

-- the first calls of a run are a run
first_calls_run : (m : Meaning) (size : ℕ) (calls : List Call) (answers : List Answer) (facts : ℕ → List ℕ) → Run m size calls answers facts → (i : ℕ) → i ≤ length calls → Run m size (take i calls) (take i answers) facts
first_calls_run m size calls answers facts run i h = record {
  all_answered = length-take-le i answers (omega (arith, run.all_answered)) ∙ sym (length-take-le i calls h);
  none_at_first = run.none_at_first;
  each_carried_out = λ j call answer e f. run.each_carried_out j call answer (nth_take calls i j e) (nth_take answers i j f);
}

-- all are carried out; the table was made over the cells `before`
pub replayed : (m : Meaning) (most : ℕ) (law : Lawful m most) (before made : List ℕ) (calls : List Call) (given : List (Option Answer)) (cells held : List ℕ) (written : List (Option Answer)) (i : ℕ) → i ≡ length calls
    → made ≡ laid [] before → Replaying m made calls given cells held written i → Replayed m before cells held calls given written
replayed m most law before made calls given cells held written i e new was =
    let size : used made ≡ used before = ap used new ∙ used-laid [] before (omega arith) in
    let all : take i calls ≡ calls = take_all i calls (omega arith) in
    let run : Run m (used before) calls was.answers was.facts = rw (size, all) at was.run in
    record {
      answers = was.answers;
      facts = was.facts;
      cells = λ j. laid (was.facts j) before;
      run = run;
      law = law_of_runs m most law (used before) calls was.answers was.facts run;
      only_run = λ answers' facts' other. only_one_run m (used before) calls was.answers answers' was.facts facts' run other;
      first_calls = first_calls_run m (used before) calls was.answers was.facts run;
      made = ap (λ l. laid l before) run.none_at_first;
      each_writes = λ j h. sym (laid-laid (was.facts j) before (run_fits m (used before) calls was.answers was.facts run j (omega arith)) (was.facts (j + 1)));
      in_first_cells = λ j h. refl;
      ends = rw (← e, was.holds) (was.laid_out ∙ ap (laid held) new ∙ laid-laid [] before (omega arith) held);
      holds = rw (← e) (sym was.holds);
      answered = rw (← e) was.answered;
    }

-- The law that runs of calls keep.
use Rattle.std.proofs.Common.{◌≡◌, ℕ, zero, suc, ◌+◌, ◌<◌, ◌≤◌, List, [], length, Some, Ok, Err, Result, ap, ◌∙◌, subst, add-one, inl, inr, arith}
use Rattle.std.specs.List.{slice_get}
use Rattle.std.proofs.lemmas.Option.{slice_get_cases, slice_get_within}
use Rattle.rows.specs.Rows.{Ascending}
use Rattle.rows.proofs.Ascents.{ascending_none}
use Rattle.book.specs.Meaning.{Meaning, Lawful}
use Rattle.table.specs.Calls.{Delivers, Withdraws}
use Rattle.table.specs.Worlds.{SomeWorldHoldsExactly}
use Rattle.table.specs.declared.refusals.Refusal.{Refusal}
use Rattle.table.specs.Runs.{CarriedOut, Run, LawOfRuns}
use Rattle.table.specs.declared.journal.Call.{Call}
use Rattle.table.specs.declared.journal.Call.TheVariants.{Deliver, Withdraw, CountHeld, IsHeld, NthHeld}
use Rattle.table.specs.declared.journal.Answer.{Answer}
use Rattle.table.proofs.Worlds.{delivery_by_worlds, withdrawal_by_worlds, delivery_keeps_a_world, withdrawal_keeps_a_world, world_of_nothing}

-- each place of a list has an item
pub nth_within : {X : Type 0} (xs : List X) (i : ℕ) → i < length xs → (x : X) × (slice_get xs i ≡ Some x)
nth_within xs i h = elim (slice_get_cases xs i).1 [ inl s ↦ (s.0, s.2) | inr p ↦ absurd (omega (arith, p.0)) ]

-- what holds of no facts and is kept by each call holds after each call
pub after_each : (m : Meaning) (size : ℕ) (calls : List Call) (answers : List Answer) (facts : ℕ → List ℕ) → Run m size calls answers facts → (P : List ℕ → Type 0) → P [] → ((old : List ℕ) (call : Call) (new : List ℕ) (answer : Answer) → CarriedOut m size old call new answer → P old → P new) → (i : ℕ) → i ≤ length calls → P (facts i)
after_each m size calls answers facts run P none step zero h = rw run.none_at_first none
after_each m size calls answers facts run P none step (suc i) h =
    let call = nth_within calls i (omega arith) in
    let answer = nth_within answers i (omega (arith, run.all_answered)) in
    subst (λ n. P (facts n)) (add-one i)
    (step (facts i) call.0 _ answer.0 (run.each_carried_out i call.0 answer.0 call.1 answer.1) (after_each m size calls answers facts run P none step i (omega arith)))

module _ (m : Meaning) (most : ℕ) (law : Lawful m most) where
  call_keeps_a_world : (size : ℕ) (old : List ℕ) (call : Call) (new : List ℕ) (answer : Answer) → CarriedOut m size old call new answer → SomeWorldHoldsExactly m old → SomeWorldHoldsExactly m new
  call_keeps_a_world size old (Deliver list) new answer l s = delivery_keeps_a_world m most law size list.now old new l.0 l.2 s
  call_keeps_a_world size old (Withdraw list) new answer l s = withdrawal_keeps_a_world m most law list.now old new l.0 l.2 s
  call_keeps_a_world size old CountHeld new answer l s = rw l.1 s
  call_keeps_a_world size old (IsHeld c) new answer l s = rw l.1 s
  call_keeps_a_world size old (NthHeld k) new answer l s = rw l.1 s

  call_keeps_ascending : (size : ℕ) (old : List ℕ) (call : Call) (new : List ℕ) (answer : Answer) → CarriedOut m size old call new answer → Ascending old → Ascending new
  call_keeps_ascending size old (Deliver list) new answer l up = delivered l.0 l.2 where
    delivered : (r : Result (ℕ × ℕ) Refusal) → Delivers m size list.now old new r → Ascending new
    delivered (Ok counts) d = d.leaves.ascends
    delivered (Err e) d = rw d.1 up
  call_keeps_ascending size old (Withdraw list) new answer l up = withdrawn l.0 l.2 where
    withdrawn : (r : Result (ℕ × ℕ) Refusal) → Withdraws m list.now old new r → Ascending new
    withdrawn (Ok counts) d = d.0.leaves.ascends
    withdrawn (Err e) d = rw d.1 up
  call_keeps_ascending size old CountHeld new answer l up = rw l.1 up
  call_keeps_ascending size old (IsHeld c) new answer l up = rw l.1 up
  call_keeps_ascending size old (NthHeld k) new answer l up = rw l.1 up

  module _ (size : ℕ) (calls : List Call) (answers : List Answer) (facts : ℕ → List ℕ) (run : Run m size calls answers facts) where
    world_after : (i : ℕ) → i ≤ length calls → SomeWorldHoldsExactly m (facts i)
    world_after = after_each m size calls answers facts run (SomeWorldHoldsExactly m) (world_of_nothing m most law) (call_keeps_a_world size)

    ascending_after : (i : ℕ) → i ≤ length calls → Ascending (facts i)
    ascending_after = after_each m size calls answers facts run Ascending ascending_none (call_keeps_ascending size)

    -- the answer to a call, and what it says
    answered_there : (i : ℕ) (call : Call) → slice_get calls i ≡ Some call → (answer : Answer) × (slice_get answers i ≡ Some answer) × CarriedOut m size (facts i) call (facts (i + 1)) answer
    answered_there i call e =
        let answer = nth_within answers i (omega (arith, slice_get_within calls i call e, run.all_answered)) in
        (answer.0, answer.1, run.each_carried_out i call answer.0 e answer.1)

    pub law_of_runs : LawOfRuns m calls answers facts
    law_of_runs = record {
      some_world = world_after;
      ascending = ascending_after;
      count_told = λ i e. let a = answered_there i CountHeld e in a.1 ∙ ap Some a.2.0;
      is_held_told = λ i c e. let a = answered_there i (IsHeld c) e in (a.2.0.0, a.1 ∙ ap Some a.2.0.1, a.2.0.2);
      nth_told = λ i k e. let a = answered_there i (NthHeld k) e in a.1 ∙ ap Some a.2.0;
      deliveries = λ i list e.
          let a = answered_there i (Deliver list) e in
          (a.2.0, a.1 ∙ ap Some a.2.1, delivery_by_worlds m most law size list.now (facts i) (facts (i + 1)) a.2.0 a.2.2);
      withdrawals = λ i list e.
          let a = answered_there i (Withdraw list) e in
          (a.2.0, a.1 ∙ ap Some a.2.1, withdrawal_by_worlds m most law list.now (facts i) (facts (i + 1)) a.2.0 a.2.2);
    }

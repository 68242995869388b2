-- Runs of calls on one table under one book, from the making on, and the law that they keep.
use Rattle.std.specs.Prelude.{◌≡◌, ℕ, ◌+◌, ◌<◌, ◌≤◌, Bool, List, [], ◌++◌, map, length, take, drop, Some, IsTrue, ◌↔◌, Option, Result}
use Rattle.std.specs.Borrow.{Bor}
use Rattle.std.specs.List.{Contains, slice_get}
use Rattle.rows.specs.Rows.{Ascending}
use Rattle.book.specs.Meaning.{Meaning}
use Rattle.table.specs.Cells.{used, laid}
use Rattle.table.specs.Calls.{Delivers, Withdraws}
use Rattle.table.specs.Worlds.{SomeWorldHoldsExactly, DeliveryByWorlds, WithdrawalByWorlds}
use Rattle.table.specs.declared.refusals.Refusal.{Refusal}
use Rattle.table.specs.declared.journal.Call.{Call}
use Rattle.table.specs.declared.journal.Call.TheVariants.{Deliver, Withdraw, CountHeld, IsHeld, NthHeld}
use Rattle.table.specs.declared.journal.Answer.{Answer}
use Rattle.table.specs.declared.journal.Answer.TheVariants.{Changed, Number, Held, Fact}

-- What a call leaves of the facts `old` and answers, on a table that uses `size` cells. It is stated of facts only.
abbrev pub CarriedOut : Meaning → ℕ → List ℕ → Call → List ℕ → Answer → Type 0
CarriedOut m size old (Deliver list) new answer = (r : Result (ℕ × ℕ) Refusal) × (answer ≡ Changed r) × Delivers m size list.now old new r
CarriedOut m size old (Withdraw list) new answer = (r : Result (ℕ × ℕ) Refusal) × (answer ≡ Changed r) × Withdraws m list.now old new r
CarriedOut m size old CountHeld new answer = (answer ≡ Number (length old)) × (new ≡ old)
CarriedOut m size old (IsHeld c) new answer = ((r : Bool) × (answer ≡ Held r) × (IsTrue r ↔ Contains old c)) × (new ≡ old)
CarriedOut m size old (NthHeld k) new answer = (answer ≡ Fact (slice_get old k)) × (new ≡ old)

-- The facts that a run of calls holds, `facts i` after the first i calls, and its answers. They come from the book,
-- the number of cells in use and the calls alone. Nothing is said of i beyond the number of calls.
pub record Run (m : Meaning) (size : ℕ) (calls : List Call) (answers : List Answer) (facts : ℕ → List ℕ) : Type 0 where
  -- each call has an answer
  pub all_answered : length answers ≡ length calls
  -- after the making none are held
  pub none_at_first : facts 0 ≡ []
  -- then what each call leaves
  pub each_carried_out : (i : ℕ) (call : Call) (answer : Answer) → slice_get calls i ≡ Some call → slice_get answers i ≡ Some answer → CarriedOut m size (facts i) call (facts (i + 1)) answer

-- The law of runs.
pub record LawOfRuns (m : Meaning) (calls : List Call) (answers : List Answer) (facts : ℕ → List ℕ) : Type 0 where
  -- after the making and after each call some world holds exactly the facts in the table, which ascend
  pub some_world : (i : ℕ) → i ≤ length calls → SomeWorldHoldsExactly m (facts i)
  pub ascending : (i : ℕ) → i ≤ length calls → Ascending (facts i)
  -- the questions tell exactly these facts
  pub count_told : (i : ℕ) → slice_get calls i ≡ Some CountHeld → slice_get answers i ≡ Some (Number (length (facts i)))
  pub is_held_told : (i c : ℕ) → slice_get calls i ≡ Some (IsHeld c) → (r : Bool) × (slice_get answers i ≡ Some (Held r)) × (IsTrue r ↔ Contains (facts i) c)
  pub nth_told : (i k : ℕ) → slice_get calls i ≡ Some (NthHeld k) → slice_get answers i ≡ Some (Fact (slice_get (facts i) k))
  -- each delivery and each withdrawal does what the worlds ask
  pub deliveries : (i : ℕ) (list : Bor (List ℕ)) → slice_get calls i ≡ Some (Deliver list)
      → (r : Result (ℕ × ℕ) Refusal) × (slice_get answers i ≡ Some (Changed r)) × DeliveryByWorlds m list.now (facts i) (facts (i + 1)) r
  pub withdrawals : (i : ℕ) (list : Bor (List ℕ)) → slice_get calls i ≡ Some (Withdraw list)
      → (r : Result (ℕ × ℕ) Refusal) × (slice_get answers i ≡ Some (Changed r)) × WithdrawalByWorlds m list.now (facts i) (facts (i + 1)) r

-- The calls were carried out on a table made over the cells `before`. In the end it holds `held` and its cells are `after`.
pub record Replayed (m : Meaning) (before after held : List ℕ) (calls : List Call) (places_before places_after : List (Option Answer)) : Type 0 where
  pub answers : List Answer
  pub facts : ℕ → List ℕ
  -- all the cells, `cells i` after the first i calls
  pub cells : ℕ → List ℕ
  pub run : Run m (used before) calls answers facts
  pub law : LawOfRuns m calls answers facts
  -- no other answers and facts are those of a run of these calls
  pub only_run : (answers' : List Answer) (facts' : ℕ → List ℕ) → Run m (used before) calls answers' facts' → (answers' ≡ answers) × ((i : ℕ) → i ≤ length calls → facts' i ≡ facts i)
  -- the first calls are a run by themselves, with the same answers and facts
  pub first_calls : (i : ℕ) → i ≤ length calls → Run m (used before) (take i calls) (take i answers) facts
  -- what the making and each call leave in every cell: the facts in the first cells, then zeros, and the rest as lent
  pub made : cells 0 ≡ laid [] before
  pub each_writes : (i : ℕ) → i < length calls → cells (i + 1) ≡ laid (facts (i + 1)) (cells i)
  pub in_first_cells : (i : ℕ) → i ≤ length calls → cells i ≡ laid (facts i) before
  -- the table that is given back
  pub ends : after ≡ cells (length calls)
  pub holds : held ≡ facts (length calls)
  -- the answers stand in order in the places for them, as far as there are places; the other places are as they were
  pub answered : places_after ≡ map Some (take (length places_before) answers) ++ drop (length calls) places_before

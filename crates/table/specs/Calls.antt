-- What a delivery and a withdrawal leave of the facts held, and what they answer. It is stated of facts only;
-- `laid` says where they stand in the cells.
use Rattle.std.specs.Prelude.{◌≡◌, ℕ, ◌≤◌, List, length, Ok, Err, Result}
use Rattle.rows.specs.Rows.{RowOf, Count}
use Rattle.book.specs.Meaning.{Meaning, NothingClashes}
use Rattle.table.specs.Facts.{AfterDelivery, AfterWithdrawal, OnlyIn, ShortAndKnown}
use Rattle.table.specs.Refusals.{ListRefused, DeliveryRefused}
use Rattle.table.specs.declared.refusals.Refusal.{Refusal}

-- an accepted delivery to a table of `size` cells, with the numbers of facts gone and come
pub record DeliveryAccepted (m : Meaning) (size : ℕ) (list old new : List ℕ) (gone come : ℕ) : Type 0 where
  -- none of the causes of refusal is there
  pub short_and_known : ShortAndKnown m list
  pub nothing_clashes : NothingClashes m list
  pub fits : length new ≤ size
  -- exactly these facts are held afterwards
  pub leaves : RowOf (AfterDelivery m list old) new
  -- those held only before, and those held only afterwards
  pub number_gone : Count (OnlyIn old new) gone
  pub number_come : Count (OnlyIn new old) come

-- what a delivery leaves of the facts `old` and answers; a refusal leaves them as they were
abbrev pub Delivers : Meaning → ℕ → List ℕ → List ℕ → List ℕ → Result (ℕ × ℕ) Refusal → Type 0
Delivers m size list old new (Ok counts) = DeliveryAccepted m size list old new counts.0 counts.1
Delivers m size list old new (Err e) = DeliveryRefused m size list old e × (new ≡ old)

-- an accepted withdrawal, with the number of facts gone
pub record WithdrawalAccepted (m : Meaning) (list old new : List ℕ) (gone : ℕ) : Type 0 where
  -- none of the causes of refusal is there
  pub short_and_known : ShortAndKnown m list
  -- exactly these facts are held afterwards
  pub leaves : RowOf (AfterWithdrawal m list old) new
  -- those held only before
  pub number_gone : Count (OnlyIn old new) gone

-- what a withdrawal leaves of the facts `old` and answers: no facts come, and a refusal leaves them as they were
abbrev pub Withdraws : Meaning → List ℕ → List ℕ → List ℕ → Result (ℕ × ℕ) Refusal → Type 0
Withdraws m list old new (Ok counts) = WithdrawalAccepted m list old new counts.0 × (counts.1 ≡ 0)
Withdraws m list old new (Err e) = ListRefused m list e × (new ≡ old)

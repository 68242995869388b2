-- The facts that a withdrawal leaves.
use Rattle.std.proofs.Common.{◌≡◌, ℕ, ◌+◌, List, length, Ok, Err, filter, Result, sym, subst}
use Rattle.std.specs.List.{Contains}
use Rattle.rows.specs.Rows.{Ascending}
use Rattle.rows.proofs.Members.{has_none}
use Rattle.book.specs.Meaning.{Meaning, Lawful}
use Rattle.table.specs.Facts.{UnknownStay, NoneFollows, ShortAndKnown}
use Rattle.table.specs.Calls.{WithdrawalAccepted, Withdraws}
use Rattle.table.specs.Checks.{untouched}
use Rattle.table.specs.declared.refusals.Refusal.{Refusal}
use Rattle.table.proofs.Staying.{stay_row, gone_count}
use Rattle.table.proofs.Tests.{untouched_tells}

pub withdrawn : (m : Meaning) (list old new : List ℕ) (gone : ℕ) → Ascending old → ShortAndKnown m list → new ≡ filter (untouched m list) old → gone + length new ≡ length old → WithdrawalAccepted m list old new gone
withdrawn m list old new gone up short_and_known is e =
    let p = untouched m list in
    let row = stay_row p old up (NoneFollows m list) (untouched_tells m list) in
    rw is (record {
      short_and_known = short_and_known;
      leaves = row;
      number_gone = gone_count p old up (filter p old) (λ c h. ((λ k. (untouched_tells m list c).1 ((row.members c).0 k).1), λ t. (row.members c).1 (h, (untouched_tells m list c).0 t))) gone (rw is at e);
    })

-- the number gone, as it is answered
pub so_many_gone : {m : Meaning} {list old new : List ℕ} {gone n : ℕ} → WithdrawalAccepted m list old new gone → gone ≡ n → WithdrawalAccepted m list old new n
so_many_gone {m} {list} {old} {new} a e = subst (WithdrawalAccepted m list old new) e a

-- from a code that the book does not know nothing follows
pub unknown_stay : (m : Meaning) (most : ℕ) (law : Lawful m most) (list old new : List ℕ) (r : Result (ℕ × ℕ) Refusal) → Withdraws m list old new r → UnknownStay m old new
unknown_stay m most law list old new (Ok counts) w c unknown h = (w.0.leaves.members c).1 (h, λ d k f. has_none (subst (λ l. Contains l d) (law.unknown_has_no_consequences c unknown) f))
unknown_stay m most law list old new (Err e) w c unknown h = subst (λ l. Contains l c) (sym w.1) h

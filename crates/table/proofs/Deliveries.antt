-- The facts that a delivery leaves: those of the earlier row that stay, and those that come.
use Rattle.std.proofs.Common.{◌≡◌, ℕ, ◌+◌, ◌*◌, ◌≤◌, ◌⊎◌, ◌↔◌, List, [], ◌∷◌, length, IfOk, Ok, Err, filter, Result, sym, ap, ◌∙◌, subst, inl, inr, arith}
use Rattle.std.specs.List.{Contains, count_by}
use Rattle.std.proofs.lemmas.List.Sums.{length-filter}
use Rattle.std.proofs.lemmas.Bool.{both_ways, false_from_ne_true}
use Rattle.rows.specs.Rows.{Ascending, RowOf, Count}
use Rattle.table.proofs.Descents.{row_of_both}
use Rattle.book.specs.Meaning.{Meaning, Lawful, FollowsFromOne, NothingClashes}
use Rattle.book.proofs.Peace.{causes_clash}
use Rattle.table.specs.Facts.{ClashesWithNone, AfterDelivery, UnknownStay, ShortAndKnown}
use Rattle.table.specs.Refusals.{number_of, returned_by, DeliveryRefused}
use Rattle.table.specs.Calls.{DeliveryAccepted, Delivers}
use Rattle.table.specs.declared.refusals.Refusal.{Refusal}
use Rattle.table.specs.Checks.{stays, TooMany}
use Rattle.table.specs.Descent.{Comes}
use Rattle.table.proofs.Few.{follow_few}
use Rattle.table.proofs.Staying.{stay_row, gone_count}
use Rattle.table.proofs.Tests.{stays_tells, cases_has}

module _ (m : Meaning) (most : ℕ) (law : Lawful m most) (size : ℕ) (list old new : List ℕ) where
  -- a code that the book does not know clashes with nothing
  pub unknown_stay : (r : Result (ℕ × ℕ) Refusal) → Delivers m size list old new r → UnknownStay m old new
  unknown_stay (Ok counts) d c unknown h = (d.leaves.members c).1 (inr (h, λ e k. false_from_ne_true (m.clash e c) (λ t. both_ways (m.known c) unknown (law.only_known_clash e c t).1)))
  unknown_stay (Err e) d c unknown h = subst (λ l. Contains l c) (sym d.1) h

  -- at most `most` facts come for each delivered one
  pub few_come : (r : Result (ℕ × ℕ) Refusal) → Delivers m size list old new r → IfOk r (λ counts. counts.1 ≤ length list * most)
  few_come (Ok counts) d =
      let come = d.number_come in
      omega (
        arith,
        come.2,
        follow_few m most law list come.0 come.1.ascends (λ c h.
            let only = (come.1.members c).0 h in
            elim ((d.leaves.members c).0 only.0) [ inl f ↦ f | inr k ↦ absurd (only.1 k.0) ]),
      )
  few_come (Err e) d = tt

module _ (m : Meaning) (most : ℕ) (law : Lawful m most) (list old : List ℕ) (peace : NothingClashes m list) (up : Ascending old) where
  -- what follows from a delivered fact clashes with none of them
  follows_stays : (c : ℕ) → FollowsFromOne m list c → ClashesWithNone m list c
  follows_stays c f d h = false_from_ne_true (m.clash d c) (λ e. both_ways (m.clash d f.0) (peace d f.0 h f.1) (causes_clash m most law f.0 d c f.2 e))

  abbrev staying : List ℕ
  staying = filter (stays m list) old

  pub staying_row : RowOf (λ c. Contains old c × ClashesWithNone m list c) staying
  staying_row = stay_row (stays m list) old up (ClashesWithNone m list) (stays_tells m list)

  staying_has : (c : ℕ) → Contains staying c ↔ (Contains old c × ClashesWithNone m list c)
  staying_has = staying_row.members

  -- a code that follows comes to the staying facts exactly if it comes to the earlier ones
  pub comes_to_staying : (n : ℕ) → Count (Comes m list old) n → Count (Comes m list staying) n
  comes_to_staying n count = (
    count.0,
    record {
      ascends = count.1.ascends;
      members = λ c. (
        (λ h. let p = (count.1.members c).0 h in (p.0, λ k. p.1 ((staying_has c).0 k).0)),
        λ p. (count.1.members c).1 (p.0, λ k. p.1 ((staying_has c).1 (k, follows_stays c p.0))),
      );
    },
    count.2,
  )

  -- the staying facts and all that follows are what the delivery leaves
  pub leaves_both : (new : List ℕ) → RowOf (λ c. FollowsFromOne m list c ⊎ Contains staying c) new → RowOf (AfterDelivery m list old) new
  leaves_both new r = record {
    ascends = r.ascends;
    members = λ c. (
      (λ h. elim ((r.members c).0 h) [ inl f ↦ inl f | inr k ↦ inr ((staying_has c).0 k) ]),
      λ h. (r.members c).1 (elim h [ inl f ↦ inl f | inr k ↦ inr ((staying_has c).1 k) ]),
    );
  }

  -- and how many these are
  pub leaves_some : (come : ℕ) → Count (Comes m list old) come → (new : List ℕ) × RowOf (AfterDelivery m list old) new × (length new ≡ length staying + come)
  leaves_some come count =
      let r = row_of_both staying count.0 staying_row.ascends count.1.ascends (λ c h k. ((count.1.members c).0 k).1 ((staying_has c).0 h).0) in (
        r.0,
        leaves_both r.0 (record {
          ascends = r.1.ascends;
          members = λ c. (
            (λ h. elim ((r.1.members c).0 h) [ inl k ↦ inr k | inr k ↦ inl ((count.1.members c).0 k).0 ]),
            λ h. (r.1.members c).1 (elim h [
              | inl f ↦ elim (cases_has old c) [
                | inl k ↦ inl ((staying_has c).1 (k, follows_stays c f))
                | inr k ↦ inr ((count.1.members c).1 (f, k))
              ]
              | inr k ↦ inl k
            ]),
          );
        }),
        omega (arith, r.2, count.2),
      )

  staying_long : length staying ≡ count_by (stays m list) old
  staying_long = length-filter (stays m list) old

  -- more facts than cells
  pub refused_full : (size come : ℕ) (e : Refusal) → ShortAndKnown m list → Count (Comes m list old) come → TooMany (count_by (stays m list) old + come) size e → DeliveryRefused m size list old e
  refused_full size come e short_and_known count more =
      let new = leaves_some come count in
      inr (inr (short_and_known, peace, (new.0, new.1, omega (arith, more.0, new.2, staying_long), (ap number_of more.1, ap returned_by more.1 ∙ ap (λ n. n ∷ []) (omega (arith, new.2, staying_long))))))

  -- the facts that stay are `kept`, and among them is entered what comes
  pub delivered : (size come gone : ℕ) (kept new : List ℕ) → ShortAndKnown m list → Count (Comes m list old) come → count_by (stays m list) old + come ≤ size
      → kept ≡ staying → gone + length kept ≡ length old → RowOf (λ c. FollowsFromOne m list c ⊎ Contains kept c) new → length new ≡ length kept + come → DeliveryAccepted m size list old new gone come
  delivered size come gone kept new short_and_known count room is e row long =
      let leaves = leaves_both new (rw is at row) in
      record {
        short_and_known = short_and_known;
        nothing_clashes = peace;
        fits = omega (arith, room, long, staying_long, ap length is);
        leaves = leaves;
        number_gone = gone_count (stays m list) old up new (λ c h. (
          (λ n. (stays_tells m list c).1 (elim ((leaves.members c).0 n) [ inl f ↦ follows_stays c f | inr k ↦ k.1 ])),
          λ t. (leaves.members c).1 (inr (h, (stays_tells m list c).0 t)),
        )) gone (rw is at e);
        number_come = (
          count.0,
          record {
            ascends = count.1.ascends;
            members = λ c. (
              (λ h. let k = (count.1.members c).0 h in ((leaves.members c).1 (inl k.0), k.1)),
              λ k. (count.1.members c).1 (elim ((leaves.members c).0 k.0) [ inl f ↦ (f, k.1) | inr o ↦ absurd (k.1 o.0) ]),
            );
          },
          count.2,
        );
      }

-- the number that came, as it is answered
pub so_many_come : {m : Meaning} {size : ℕ} {list old new : List ℕ} {gone come n : ℕ} → DeliveryAccepted m size list old new gone come → come ≡ n → DeliveryAccepted m size list old new gone n
so_many_come {m} {size} {list} {old} {new} {gone} a e = subst (DeliveryAccepted m size list old new gone) e a

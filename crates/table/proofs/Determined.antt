-- What calls answer and which facts they leave is determined by the book, the number of cells and the calls.
use Rattle.std.proofs.lemmas.Grind.{common_steps}
use Rattle.std.proofs.Common.{rules, ◌≡◌, ℕ, zero, suc, ◌+◌, ◌<◌, ◌≤◌, List, [], ◌∷◌, length, Some, Ok, Err, Result, sym, ap, ◌∙◌, subst, inl, inr, add-one, arith}
use Rattle.std.specs.List.{slice_get}
use Rattle.std.proofs.lemmas.List.Elements.{Contains-get_or}
use Rattle.std.proofs.lemmas.List.{same_lists}
use Rattle.std.proofs.lemmas.Option.{slice_get-get_or}
use Rattle.std.proofs.lemmas.Bool.{both_ways}
use Rattle.rows.proofs.Properties.{one_row, one_count}
use Rattle.book.specs.Meaning.{Meaning, NothingClashes}
use Rattle.book.specs.Lists.{FirstClash}
use Rattle.table.specs.Refusals.{Says, ListRefused, DeliveryRefused}
use Rattle.table.specs.Calls.{DeliveryAccepted, Delivers, Withdraws}
use Rattle.table.specs.Runs.{CarriedOut, Run}
use Rattle.table.specs.declared.refusals.Refusal.{Refusal}
use Rattle.table.specs.declared.journal.Call.{Call}
use Rattle.table.specs.declared.journal.Call.TheVariants.{Deliver, Withdraw, CountHeld, IsHeld, NthHeld}
use Rattle.table.specs.declared.journal.Answer.{Answer}
use Rattle.table.proofs.Worlds.{refused_is_not_short_and_known}
use Rattle.table.proofs.Runs.{nth_within}

-- refusals that say the same are the same
says_the_same : (e f : Refusal) (n : ℕ) (xs ys : List ℕ) → Says e n xs → Says f n ys → xs ≡ ys → f ≡ e
says_the_same e f n xs ys s t q = search rules

module _ (m : Meaning) (list : List ℕ) where
  one_first_clash : (p q : ℕ × ℕ) → FirstClash m list (Some p) → FirstClash m list (Some q) → p ≡ q
  one_first_clash p q f g = search rules

  first_clash_is_a_clash : (p : ℕ × ℕ) → FirstClash m list (Some p) → NothingClashes m list → ⊥
  first_clash_is_a_clash p f none = both_ways _ (none _ _ (Contains-get_or list p.0 0 (omega (arith, f.0, f.1))) (Contains-get_or list p.1 0 f.1)) f.2

  one_list_refusal : (e f : Refusal) → ListRefused m list e → ListRefused m list f → f ≡ e
  one_list_refusal e f r s = search rules

  one_withdrawal : (old new new' : List ℕ) (r s : Result (ℕ × ℕ) Refusal) → Withdraws m list old new r → Withdraws m list old new' s → (s ≡ r) × (new' ≡ new)
  one_withdrawal old new new' (Ok a) (Ok b) d d' =
      let same = one_row d'.0.leaves d.0.leaves in
      let gone = one_count _ _ _ (rw same at d'.0.number_gone) d.0.number_gone in
      search rules
  one_withdrawal old new new' (Ok a) (Err f) d d' = grind (arith, common_steps)
  one_withdrawal old new new' (Err e) (Ok b) d d' = grind (arith, common_steps)
  one_withdrawal old new new' (Err e) (Err f) d d' = search rules

  module _ (size : ℕ) (old : List ℕ) where
    one_delivery_refusal : (e f : Refusal) → DeliveryRefused m size list old e → DeliveryRefused m size list old f → f ≡ e
    one_delivery_refusal e f r s = elim r [
      | inl a ↦ elim s [
        | inl b ↦ one_list_refusal e f a b
        | inr t ↦ absurd (refused_is_not_short_and_known m list e a (elim t [ inl b ↦ b.0 | inr b ↦ b.0 ]))
      ]
      | inr v ↦ elim v [
        | inl a ↦ elim s [
          | inl b ↦ absurd (refused_is_not_short_and_known m list f b a.0)
          | inr t ↦ elim t [
            | inl b ↦ says_the_same e f _ _ _ a.1.2 b.1.2 (ap (λ (p : ℕ × ℕ). p.0 ∷ (p.1 ∷ [])) (one_first_clash _ _ a.1.1 b.1.1))
            | inr b ↦ absurd (first_clash_is_a_clash _ a.1.1 b.1)
          ]
        ]
        | inr a ↦ elim s [
          | inl b ↦ absurd (refused_is_not_short_and_known m list f b a.0)
          | inr t ↦ elim t [
            | inl b ↦ absurd (first_clash_is_a_clash _ b.1.1 a.1)
            | inr b ↦ says_the_same e f _ _ _ a.2.3 b.2.3 (ap (λ (xs : List ℕ). length xs ∷ []) (one_row a.2.1 b.2.1))
          ]
        ]
      ]
    ]

    -- a delivery that is accepted is not refused
    accepted_or_refused : (new : List ℕ) (gone come : ℕ) (e : Refusal) → DeliveryAccepted m size list old new gone come → DeliveryRefused m size list old e → ⊥
    accepted_or_refused new gone come e d r = elim r [
      | inl a ↦ refused_is_not_short_and_known m list e a d.short_and_known
      | inr v ↦ elim v [
        | inl a ↦ first_clash_is_a_clash _ a.1.1 d.nothing_clashes
        | inr a ↦ omega (arith, d.fits, a.2.2, ap length (one_row d.leaves a.2.1))
      ]
    ]

    one_delivery : (new new' : List ℕ) (r s : Result (ℕ × ℕ) Refusal) → Delivers m size list old new r → Delivers m size list old new' s → (s ≡ r) × (new' ≡ new)
    one_delivery new new' (Ok a) (Ok b) d d' =
        let same = one_row d'.leaves d.leaves in
        let gone = one_count _ _ _ (rw same at d'.number_gone) d.number_gone in
        let come = one_count _ _ _ (rw same at d'.number_come) d.number_come in
        search rules
    one_delivery new new' (Ok a) (Err f) d d' = absurd (accepted_or_refused new _ _ f d d'.0)
    one_delivery new new' (Err e) (Ok b) d d' = absurd (accepted_or_refused new' _ _ e d' d.0)
    one_delivery new new' (Err e) (Err f) d d' = (ap Err (one_delivery_refusal e f d.0 d'.0), d'.1 ∙ sym d.1)

-- a call leaves and answers one thing
one_answer : (m : Meaning) (size : ℕ) (old : List ℕ) (call : Call) (new new' : List ℕ) (answer answer' : Answer) → CarriedOut m size old call new answer → CarriedOut m size old call new' answer' → (answer' ≡ answer) × (new' ≡ new)
one_answer m size old (Deliver list) new new' answer answer' l k =
    let one = one_delivery m list.now size old new new' l.0 k.0 l.2 k.2 in
    (cc, one.1)
one_answer m size old (Withdraw list) new new' answer answer' l k =
    let one = one_withdrawal m list.now old new new' l.0 k.0 l.2 k.2 in
    (cc, one.1)
one_answer m size old CountHeld new new' answer answer' l k = (cc, cc)
one_answer m size old (IsHeld c) new new' answer answer' l k = search rules
one_answer m size old (NthHeld k) new new' answer answer' l l' = (cc, cc)

module _ (m : Meaning) (size : ℕ) (calls : List Call) (answers answers' : List Answer) (facts facts' : ℕ → List ℕ) (run : Run m size calls answers facts) (run' : Run m size calls answers' facts') where
  one_at : (i : ℕ) → i < length calls → facts' i ≡ facts i → (slice_get answers' i ≡ slice_get answers i) × (facts' (i + 1) ≡ facts (i + 1))
  one_at i h same =
      let call = nth_within calls i h in
      let a = nth_within answers i (omega (arith, run.all_answered)) in
      let b = nth_within answers' i (omega (arith, run'.all_answered)) in
      let left' : CarriedOut m size (facts i) call.0 (facts' (i + 1)) b.0 = rw same at (run'.each_carried_out i call.0 b.0 call.1 b.1) in
      let one = one_answer m size (facts i) call.0 (facts (i + 1)) (facts' (i + 1)) a.0 b.0 (run.each_carried_out i call.0 a.0 call.1 a.1) left' in
      (cc, one.1)

  same_facts : (i : ℕ) → i ≤ length calls → facts' i ≡ facts i
  same_facts zero h = run'.none_at_first ∙ sym run.none_at_first
  same_facts (suc i) h = subst (λ n. facts' n ≡ facts n) (add-one i) (one_at i (omega arith) (same_facts i (omega arith))).1

  pub only_one_run : (answers' ≡ answers) × ((i : ℕ) → i ≤ length calls → facts' i ≡ facts i)
  only_one_run = (
    same_lists answers' answers (run'.all_answered ∙ sym run.all_answered) (λ k d h.
        let one = one_at k (omega (arith, run'.all_answered)) (same_facts k (omega (arith, run'.all_answered))) in
        let a = slice_get-get_or answers' k d h in
        let b = slice_get-get_or answers k d (omega (arith, run.all_answered, run'.all_answered)) in
        cc),
    same_facts,
  )

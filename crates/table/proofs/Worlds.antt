-- What deliveries and withdrawals mean by the book's worlds, and the world that they keep.
use Rattle.std.proofs.lemmas.Grind.{common_steps}
use Rattle.std.proofs.Common.{rules, ◌≡◌, ℕ, false, ◌↔◌, List, [], Some, None, Ok, Err, Result, refl, ◌∙◌, inl, inr, arith}
use Rattle.std.specs.List.{Contains}
use Rattle.std.proofs.lemmas.List.Elements.{Contains-get_or}
use Rattle.std.proofs.lemmas.Bool.{both_ways, false_from_ne_true}
use Rattle.rows.proofs.Members.{has_none}
use Rattle.book.specs.Meaning.{Meaning, Lawful, Follows, AllKnown, NothingClashes}
use Rattle.book.specs.Lists.{NoWorldHoldsAll}
use Rattle.book.proofs.Peace.{clash_is_symmetric, causes_clash, none_against, none_clash, first_clash_tells}
use Rattle.table.specs.Facts.{ClashesWithNone, AfterDelivery, ShortAndKnown}
use Rattle.table.specs.Refusals.{ListRefused, DeliveryRefused}
use Rattle.table.specs.Calls.{DeliveryAccepted, Delivers, Withdraws}
use Rattle.table.specs.Worlds.{SomeWorldHoldsExactly, TurnedAway, DeliveryByWorlds, WithdrawalByWorlds}
use Rattle.table.specs.declared.refusals.Refusal.{Refusal}

-- a list that is refused for its length or for an unknown code is not short and known
pub refused_is_not_short_and_known : (m : Meaning) (list : List ℕ) (e : Refusal) → ListRefused m list e → ShortAndKnown m list → ⊥
refused_is_not_short_and_known m list e r fine = grind (arith, common_steps)

module _ (m : Meaning) (most : ℕ) (law : Lawful m most) where
  -- two facts that one world holds do not clash
  common_world : (w : m.World) (a b : ℕ) → m.Holds w a → m.Holds w b → m.clash a b ≡ false
  common_world w a b ha hb = search rules

  -- where nothing clashes, it is right not to refuse with 8
  rightly_not_contradictory : (list : List ℕ) (r : Result (ℕ × ℕ) Refusal) → NothingClashes m list → (TurnedAway 8 r → ⊥) → ShortAndKnown m list → TurnedAway 8 r ↔ NoWorldHoldsAll m list
  rightly_not_contradictory list r none other fine = ((λ e. absurd (other e)), λ nowhere. absurd (both_ways false refl ((first_clash_tells m most law list None none fine.known).1 nowhere)))

  -- a short list of known codes is refused with 8 exactly when no world holds it
  refused_by_worlds : (size : ℕ) (list old : List ℕ) (e : Refusal) → DeliveryRefused m size list old e → ShortAndKnown m list → TurnedAway 8 (Err e) ↔ NoWorldHoldsAll m list
  refused_by_worlds size list old e r fine = elim r [
    | inl a ↦ absurd (refused_is_not_short_and_known m list e a fine)
    | inr a ↦ elim a [
      | inl b ↦ ((λ _. (first_clash_tells m most law list (Some b.1.0) b.1.1 fine.known).0 refl), λ _. b.1.2.0)
      | inr b ↦ rightly_not_contradictory list (Err e) b.1 (λ eight. omega (arith, eight, b.2.3.0)) fine
    ]
  ]

  pub delivery_by_worlds : (size : ℕ) (list old new : List ℕ) (r : Result (ℕ × ℕ) Refusal) → Delivers m size list old new r → DeliveryByWorlds m list old new r
  delivery_by_worlds size list old new (Ok counts) d = record {
    contradictory = rightly_not_contradictory list (Ok counts) d.nothing_clashes (λ no. no);
    delivered_are_held = λ _ c h. (d.leaves.members c).1 (inl (c, h, law.itself_follows c (d.short_and_known.known c h)));
    compatible_facts_stay = λ _ set within w all these c h. (d.leaves.members c).1 (inr (within c h, λ b k. common_world w b c (all b k) (these c h)));
    new_facts_hold = λ _ c only w all. elim ((d.leaves.members c).0 only.0) [
      | inl f ↦ law.world_holds_what_follows f.0 c f.2 w (all f.0 f.1)
      | inr o ↦ absurd (only.1 o.0)
    ];
  }
  delivery_by_worlds size list old new (Err e) d = let told = refused_by_worlds size list old e d.0 in search rules

  pub withdrawal_by_worlds : (list old new : List ℕ) (r : Result (ℕ × ℕ) Refusal) → Withdraws m list old new r → WithdrawalByWorlds m list old new r
  withdrawal_by_worlds list old new (Ok counts) d = record {
    named_are_gone = λ _ c h k. ((d.0.leaves.members c).0 k).1 c h (law.itself_follows c (d.0.short_and_known.known c h));
    none_is_new = λ _ c k. ((d.0.leaves.members c).0 k).0;
    other_facts_stay = λ _ set within w these none c h. (d.0.leaves.members c).1 (within c h, λ b k f. none b k (law.world_holds_what_follows c b f w (these c h)));
  }
  withdrawal_by_worlds list old new (Err e) d = search rules

  -- facts that some world holds exactly do not clash, and what follows from one of them is one of them
  module _ (facts : List ℕ) (s : SomeWorldHoldsExactly m facts) where
    held_there : (c : ℕ) → Contains facts c → m.Holds s.world c
    held_there c h = (s.exactly c (s.known c h)).1 h

    do_not_clash : NothingClashes m facts
    do_not_clash a b ha hb = search rules

    hold_what_follows : (a c : ℕ) → Contains facts a → Follows m a c → Contains facts c
    hold_what_follows a c h f = (s.exactly c (law.only_known_follow a c f)).0 (law.world_holds_what_follows a c f s.world (held_there a h))

  -- and some world holds such facts exactly if they are known
  world_of : (facts : List ℕ) → AllKnown m facts → NothingClashes m facts → ((a c : ℕ) → Contains facts a → Follows m a c → Contains facts c) → SomeWorldHoldsExactly m facts
  world_of facts known none closed =
      let w = law.some_world_holds_exactly facts known none in
      record {
        known = known;
        world = w.0;
        exactly = λ c k. ((λ h. let f = (w.1 c k).0 h in closed f.0 c f.1 f.2), λ h. (w.1 c k).1 (c, h, law.itself_follows c k));
      }

  pub world_of_nothing : SomeWorldHoldsExactly m []
  world_of_nothing = world_of [] (λ c h. absurd (has_none h)) (λ a b h _. absurd (has_none h)) (λ a c h _. absurd (has_none h))

  -- what a delivery leaves does not clash
  left_in_peace : (list old : List ℕ) → NothingClashes m list → SomeWorldHoldsExactly m old → (a b : ℕ) → AfterDelivery m list old a → AfterDelivery m list old b → m.clash a b ≡ false
  left_in_peace list old none s a b la lb =
      let against : (c : ℕ) → ClashesWithNone m list c → _ = λ c quiet. none_against m most law list c None (λ k h. quiet _ (Contains-get_or list k 0 h)) refl in
      elim la [
        | inl fa ↦ elim lb [
          | inl fb ↦ none_clash m most law list None none refl a b fa fb
          | inr ob ↦ against b ob.1 a fa
        ]
        | inr oa ↦ elim lb [
          | inl fb ↦ clash_is_symmetric m most law a b ∙ against a oa.1 b fb
          | inr ob ↦ do_not_clash old s a b oa.0 ob.0
        ]
      ]

  accepted_keeps_a_world : (size : ℕ) (list old new : List ℕ) (gone come : ℕ) → DeliveryAccepted m size list old new gone come → SomeWorldHoldsExactly m old → SomeWorldHoldsExactly m new
  accepted_keeps_a_world size list old new gone come d s =
      let was = λ (c : ℕ) (h : Contains new c). (d.leaves.members c).0 h in
      world_of new
      (λ c h. elim (was c h) [ inl f ↦ law.only_known_follow f.0 c f.2 | inr o ↦ s.known c o.0 ])
      (λ a b ha hb. left_in_peace list old d.nothing_clashes s a b (was a ha) (was b hb))
      (λ a c h f. (d.leaves.members c).1 (elim (was a h) [
        | inl g ↦ inl (g.0, g.1, law.follows_on g.0 a c g.2 f)
        | inr o ↦ inr (hold_what_follows old s a c o.0 f, λ b k. false_from_ne_true (m.clash b c) (λ e. both_ways _ (o.1 b k) (causes_clash m most law a b c f e)))
      ]))

  pub delivery_keeps_a_world : (size : ℕ) (list old new : List ℕ) (r : Result (ℕ × ℕ) Refusal) → Delivers m size list old new r → SomeWorldHoldsExactly m old → SomeWorldHoldsExactly m new
  delivery_keeps_a_world size list old new (Ok counts) d s = accepted_keeps_a_world size list old new counts.0 counts.1 d s
  delivery_keeps_a_world size list old new (Err e) d s = rw d.1 s

  pub withdrawal_keeps_a_world : (list old new : List ℕ) (r : Result (ℕ × ℕ) Refusal) → Withdraws m list old new r → SomeWorldHoldsExactly m old → SomeWorldHoldsExactly m new
  withdrawal_keeps_a_world list old new (Ok counts) d s =
      let was = λ (c : ℕ) (h : Contains new c). (d.0.leaves.members c).0 h in
      world_of new
      (λ c h. s.known c (was c h).0)
      (λ a b ha hb. do_not_clash old s a b (was a ha).0 (was b hb).0)
      (λ a c h f. (d.0.leaves.members c).1 (hold_what_follows old s a c (was a h).0 f, λ b k g. (was a h).1 b k (law.follows_on a c b f g)))
  withdrawal_keeps_a_world list old new (Err e) d s = rw d.1 s

-- A book of places keeps the laws of every book.
use Rattle.std.specs.Prelude.{◌≡◌, ℕ, ◌≤◌, true, false, List, [], ◌∷◌, length, refl}
use Rattle.std.proofs.Common.{sym, ap, subst, ◌∙◌, inl, inr, arith}
use Rattle.std.specs.List.{Contains}
use Rattle.std.proofs.lemmas.Bool.{cases_Bool, both_ways, false_from_ne_true}
use Rattle.rows.proofs.Members.{has_head, has_tail, has_cases, has_one}
use Rattle.book.specs.Meaning.{Meaning, Lawful, FollowsFromOne, AllKnown, NothingClashes}
use Rattle.std.proofs.lemmas.Option.{same_Some}
use Rattle.place_book.specs.Places.{ParentsAreSmaller, Within}
use Rattle.place_book.specs.Places.Within.{itself}
use Rattle.place_book.specs.Meaning.{consequences, clash, place_meaning}
use Rattle.place_book.specs.Facts.{place_of, known, World, Holds}
use Rattle.place_book.specs.Tree.{within_trans, within_chain}
use Rattle.place_book.specs.Around.{around_few}
use Rattle.place_book.specs.FactsLemmas.{known_parts, consequences_unknown, has_consequence, consequence_has, follows_known, clash_tells, ascending_consequences, consequences_count}
use Rattle.place_book.specs.Worlds.{world_of, world_exact}

module _ (ps : List ℕ) (smaller : ParentsAreSmaller ps) where
  abbrev m : Meaning
  m = place_meaning ps

  -- what holds of both holds of each of a list of two
  of_two : (P : ℕ → Type 0) (a b : ℕ) → P a → P b → (c : ℕ) → Contains (a ∷ b ∷ []) c → P c
  of_two P a b pa pb c h = elim (has_cases a (b ∷ []) h) [
    | inl e ↦ subst P e pa
    | inr r ↦ subst P (has_one b r) pb
  ]

  pub clash_itself : (a : ℕ) → clash ps a a ≡ false
  clash_itself a = false_from_ne_true (clash ps a a) (λ e. ((clash_tells ps smaller a a).0 e).not_within itself)

  clash_turned : (a b : ℕ) → clash ps a b ≡ true → clash ps b a ≡ true
  clash_turned a b e =
      let s = (clash_tells ps smaller a b).0 e in
      (clash_tells ps smaller b a).1 (record { first_known = s.second_known; second_known = s.first_known; same_thing = sym s.same_thing; not_within = s.not_around; not_around = s.not_within })

  pub clash_holds_nowhere : (a b : ℕ) → clash ps a b ≡ true → (w : World ps) → Holds ps w a → Holds ps w b → ⊥
  clash_holds_nowhere a b e w ha hb =
      let s = (clash_tells ps smaller a b).0 e in
      let seat : ha.0 ≡ hb.0 = same_Some ha.0 hb.0 (sym ha.1 ∙ ap w.seat s.same_thing ∙ hb.1) in
      elim (within_chain ha.2 (subst (λ x. Within ps x (place_of b)) (sym seat) hb.2)) [
        | inl u ↦ s.not_within u
        | inr u ↦ s.not_around u
      ]

  pub holds_nowhere_clash : (a b : ℕ) → known ps a ≡ true → known ps b ≡ true → ((w : World ps) → Holds ps w a → Holds ps w b → ⊥) → clash ps a b ≡ true
  holds_nowhere_clash a b ka kb nowhere = elim (cases_Bool (clash ps a b)) [
    | inl e ↦ e
    | inr none ↦
        let turned = false_from_ne_true (clash ps b a) (λ e. both_ways _ none (clash_turned b a e)) in
        let l : List ℕ = a ∷ b ∷ [] in
        let k : AllKnown m l = of_two (λ c. known ps c ≡ true) a b ka kb in
        let peace : NothingClashes m l = λ x y hx hy. of_two (λ z. clash ps z y ≡ false) a b (of_two (λ z. clash ps a z ≡ false) a b (clash_itself a) none y hy) (of_two (λ z. clash ps b z ≡ false) a b turned (clash_itself b) y hy) x hx in
        let exact = world_exact ps smaller l k peace in
        let itself_of : (c : ℕ) → Contains l c → known ps c ≡ true → FollowsFromOne m l c = λ c h kc. (c, h, has_consequence ps smaller c c (record { known_cause = kc; same_thing = refl; within = itself })) in
        absurd (nowhere (world_of ps smaller l k) ((exact a).1 (itself_of a (has_head a (b ∷ [])) ka)) ((exact b).1 (itself_of b (has_tail a (b ∷ []) (has_head b [])) kb)))
  ]

  few : length ps ≤ 256 → (a : ℕ) → length (consequences ps a) ≤ 256
  few small a = elim (cases_Bool (known ps a)) [
    | inl e ↦ omega (arith, small, consequences_count ps smaller a e, around_few ps (place_of a))
    | inr e ↦ omega (arith, ap length (consequences_unknown ps a e))
  ]

  pub place_book_lawful : length ps ≤ 256 → Lawful m 256
  place_book_lawful small = record {
    known_codes_fit = λ a e. omega (arith, (known_parts ps a e).0);
    consequences_ascend = ascending_consequences ps smaller;
    itself_follows = λ a e. has_consequence ps smaller a a (record { known_cause = e; same_thing = refl; within = itself });
    only_known_follow = λ a c h. follows_known ps smaller a c (consequence_has ps smaller a c h);
    unknown_has_no_consequences = consequences_unknown ps;
    follows_on = λ a b c h k.
        let f = consequence_has ps smaller a b h in
        let g = consequence_has ps smaller b c k in
        has_consequence ps smaller a c (record { known_cause = f.known_cause; same_thing = g.same_thing ∙ f.same_thing; within = within_trans f.within g.within });
    world_holds_what_follows = λ a c k w h.
        let f = consequence_has ps smaller a c k in
        (h.0, ap w.seat f.same_thing ∙ h.1, within_trans h.2 f.within);
    only_known_clash = λ a b e. let s = (clash_tells ps smaller a b).0 e in (s.first_known, s.second_known);
    clash_is_no_common_world = λ a b ka kb. (clash_holds_nowhere a b, holds_nowhere_clash a b ka kb);
    some_world_holds_exactly = λ l k peace. (world_of ps smaller l k, λ c kc. world_exact ps smaller l k peace c);
    at_most_follow = few small;
    most_is_small = omega arith;
  }

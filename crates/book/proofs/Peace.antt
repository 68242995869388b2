-- What the laws give of clashes and of what follows, for every book.
use Rattle.std.proofs.Common.{◌≡◌, ℕ, ◌<◌, ◌≤◌, true, false, ◌↔◌, List, [], ◌∷◌, length, get_or, Some, None, Option, sym, refl, ◌∙◌, subst, inl, inr, arith}
use Rattle.std.specs.List.{Contains}
use Rattle.std.proofs.lemmas.List.Elements.{Contains-get_or}
use Rattle.std.proofs.lemmas.Bool.{both_ways, cases_Bool, cases_lt, false_from_ne_true}
use Rattle.std.proofs.lemmas.Bool.Decides.{same_from_decides}
use Rattle.std.proofs.lemmas.Option.{none-some}
use Rattle.rows.proofs.Members.{each_member, has_none, has_head, has_one}
use Rattle.book.specs.Meaning.{Meaning, Lawful, Follows, FollowsFromOne, AllKnown, NothingClashes, HoldsWherever}
use Rattle.book.specs.Lists.{FirstAgainst, FirstClash, NoWorldHoldsAll, SomeClash, ClashIsSymmetric, CausesClash, ConsequencesDoNotClash, ConsequencesDoNotClashWith, ContradictionIsClash, TellsContradiction}

module _ (m : Meaning) (most : ℕ) (law : Lawful m most) where
  known_cause : (a c : ℕ) → Follows m a c → m.known a ≡ true
  known_cause a c f = elim (cases_Bool (m.known a)) [
    | inl e ↦ e
    | inr e ↦ absurd (has_none (subst (λ l. Contains l c) (law.unknown_has_no_consequences a e) f))
  ]

  turned : (a b : ℕ) → m.clash a b ≡ true → m.clash b a ≡ true
  turned a b e =
      let k = law.only_known_clash a b e in
      (law.clash_is_no_common_world b a k.1 k.0).1 (λ w hb ha. (law.clash_is_no_common_world a b k.0 k.1).0 e w ha hb)

  pub clash_is_symmetric : ClashIsSymmetric m
  clash_is_symmetric a b = same_from_decides (m.clash a b) (m.clash b a) (turned a b, turned b a) ((λ e. e), λ e. e)

  pub causes_clash : CausesClash m
  causes_clash a b c f e =
      let known_b = (law.only_known_clash b c e).0 in
      (law.clash_is_no_common_world b a known_b (known_cause a c f)).1 (λ w hb ha.
      (law.clash_is_no_common_world b c known_b (law.only_known_follow a c f)).0 e w hb (law.world_holds_what_follows a c f w ha))

  not_with : (l : List ℕ) (c : ℕ) → ((d : ℕ) → Contains l d → m.clash d c ≡ false) → ConsequencesDoNotClashWith m l c
  not_with l c none a f = false_from_ne_true (m.clash a c) (λ e.
      both_ways _ (none f.0 f.1) (turned c f.0 (causes_clash f.0 c a f.2 (turned a c e))))

  not_among : (l : List ℕ) → NothingClashes m l → ConsequencesDoNotClash m l
  not_among l none a b fa fb = false_from_ne_true (m.clash a b) (λ e.
      both_ways _ (not_with l fb.0 (λ d h. none d fb.0 h fb.1) a fa) (causes_clash fb.0 a b fb.2 e))

  -- places in order are enough, since a clash is symmetric
  pub nothing_by_places : (l : List ℕ) → ((i j : ℕ) → i ≤ j → j < length l → m.clash (get_or l i 0) (get_or l j 0) ≡ false) → NothingClashes m l
  nothing_by_places l none a b ha hb =
      each_member (λ x. m.clash x b ≡ false) l (λ i hi.
      each_member (λ y. m.clash (get_or l i 0) y ≡ false) l (λ j hj.
      elim (cases_lt i j) [
        | inl h ↦ none i j (omega arith) hj
        | inr h ↦ clash_is_symmetric (get_or l i 0) (get_or l j 0) ∙ none j i h hi
      ]) b hb) a ha

  pub none_against : (l : List ℕ) (c : ℕ) (r : Option ℕ) → FirstAgainst m l (length l) c r → r ≡ None → ConsequencesDoNotClashWith m l c
  none_against l c None f e = not_with l c (each_member (λ d. m.clash d c ≡ false) l f)
  none_against l c (Some i) f e = absurd (none-some _ (sym e))

  pub none_clash : (l : List ℕ) (r : Option (ℕ × ℕ)) → FirstClash m l r → r ≡ None → ConsequencesDoNotClash m l
  none_clash l None f e = not_among l f
  none_clash l (Some p) f e = absurd (none-some _ (sym e))

  -- where nothing clashes, some world holds all
  peaceful_world : (l : List ℕ) → AllKnown m l → NothingClashes m l → NoWorldHoldsAll m l → ⊥
  peaceful_world l known none nowhere =
      let w = law.some_world_holds_exactly l known none in
      nowhere w.0 (λ c h. (w.1 c (known c h)).1 (c, h, law.itself_follows c (known c h)))

  clash_nowhere : (l : List ℕ) → AllKnown m l → SomeClash m l → NoWorldHoldsAll m l
  clash_nowhere l known s w all =
      (law.clash_is_no_common_world s.0 s.1 (known s.0 s.2) (known s.1 s.3)).0 s.4 w (all s.0 s.2) (all s.1 s.3)

  found : (l : List ℕ) (p : ℕ × ℕ) → FirstClash m l (Some p) → SomeClash m l
  found l p f = (get_or l p.0 0, get_or l p.1 0, Contains-get_or l p.0 0 (omega (arith, f.0, f.1)), Contains-get_or l p.1 0 f.1, f.2)

  pub first_clash_tells : (l : List ℕ) (r : Option (ℕ × ℕ)) → FirstClash m l r → TellsContradiction m l r
  first_clash_tells l None f known = ((λ e. absurd (both_ways false refl e)), λ nowhere. absurd (peaceful_world l known f nowhere))
  first_clash_tells l (Some p) f known = ((λ e. clash_nowhere l known (found l p f)), λ nowhere. refl)

  pub no_world_is_a_clash : (l : List ℕ) (r : Option (ℕ × ℕ)) → FirstClash m l r → ContradictionIsClash m l
  no_world_is_a_clash l None f known = ((λ nowhere. absurd (peaceful_world l known f nowhere)), clash_nowhere l known)
  no_world_is_a_clash l (Some p) f known = ((λ nowhere. found l p f), clash_nowhere l known)

  follows_from_it : (a c : ℕ) → FollowsFromOne m (a ∷ []) c → Follows m a c
  follows_from_it a c f = subst (λ d. Follows m d c) (sym (has_one a f.1)) f.2

  -- of a fact that does not clash with itself, what follows is what every world that holds it holds
  pub follows_by_worlds : (a c : ℕ) → m.known a ≡ true → m.known c ≡ true → m.clash a a ≡ false → Follows m a c ↔ HoldsWherever m a c
  follows_by_worlds a c known_a known_c none = (
    law.world_holds_what_follows a c,
    λ every.
        let known : AllKnown m (a ∷ []) = λ d h. subst (λ x. m.known x ≡ true) (has_one a h) known_a in
        let peace : NothingClashes m (a ∷ []) = λ x y hx hy. subst (λ z. m.clash z y ≡ false) (has_one a hx) (subst (λ z. m.clash a z ≡ false) (has_one a hy) none) in
        let w = law.some_world_holds_exactly (a ∷ []) known peace in
        follows_from_it a c ((w.1 c known_c).0 (every w.0 ((w.1 a known_a).1 (a, has_head a [], law.itself_follows a known_a)))),
  )

-- What follows from a list is entered among a row, from the largest code down.
use Rattle.std.proofs.Common.{◌≡◌, ℕ, ◌-◌, ◌<◌, ◌≤◌, ◌⊎◌, ◌↔◌, List, [], ◌∷◌, ◌++◌, length, take, drop, reverse, refl, ap, ◌∙◌, subst, inl, inr, arith}
use Rattle.std.specs.List.{Contains}
use Rattle.std.proofs.lemmas.List.Elements.{Contains-append_left, Contains-append_right, Contains-append_cases, Contains-push, Contains-push_cases}
use Rattle.std.proofs.lemmas.List.{length_push, length-drop, reverse-append, take-append-drop, drop_all}
use Rattle.rows.specs.Rows.{Ascending, RowOf, Count}
use Rattle.rows.proofs.Ascents.{ascending_none, ascending_cons, ascending_append, ascending_front}
use Rattle.rows.proofs.Members.{has_none, has_head, has_tail, has_cases}
use Rattle.rows.proofs.Properties.{row_within}
use Rattle.table.specs.Descent.{lows, highs}
use Rattle.table.specs.Checks.{Placing}
use Rattle.table.proofs.Cuts.{low_is, high_is, is_low, cut_cases, lows_ascend, highs_ascend, largest_last, parts_apart}

-- Of the row with the property P some numbers are still ahead, the largest last. What is entered stands in the cells from `top` on,
-- and the first `below` cells have what has not moved; between them is a cell for each number that is ahead and does not stand there.
pub record Merging (P : ℕ → Type 0) (ahead cells : List ℕ) (below top : ℕ) : Type 0 where
  pub within : top ≤ length cells
  pub behind : below ≤ top
  pub rises : Ascending ahead
  pub front : Ascending (take below cells)
  pub back : Ascending (drop top cells)
  pub apart : (x y : ℕ) → Contains (take below cells) x ⊎ Contains ahead x → Contains (drop top cells) y → x < y
  pub members : (x : ℕ) → P x ↔ ((Contains (take below cells) x ⊎ Contains ahead x) ⊎ Contains (drop top cells) x)
  pub room : Count (λ x. Contains ahead x × (Contains (take below cells) x → ⊥)) (top - below)

-- nothing is entered yet
pub merging_start : (Q : ℕ → Type 0) (ahead cells : List ℕ) (kept : ℕ) → RowOf Q ahead → kept ≤ length cells → Ascending (take kept cells)
    → Count (λ x. Q x × (Contains (take kept cells) x → ⊥)) (length cells - kept) → Merging (λ x. Q x ⊎ Contains (take kept cells) x) ahead cells kept (length cells)
merging_start Q ahead cells kept row behind front room =
    let none : drop (length cells) cells ≡ [] = drop_all (length cells) cells (omega arith) in
    record {
      within = omega arith;
      behind = behind;
      rises = row.ascends;
      front = front;
      back = rw none ascending_none;
      apart = rw none (λ x y h k. absurd (has_none k));
      members = rw none (λ x. (
        λ p. inl (elim p [ inl q ↦ inr ((row.members x).1 q) | inr h ↦ inl h ]),
        λ h. elim h [ inl l ↦ elim l [ inl f ↦ inr f | inr k ↦ inl ((row.members x).0 k) ] | inr k ↦ absurd (has_none k) ],
      ));
      room = (
        room.0,
        record {
          ascends = room.1.ascends;
          members = λ x. (
            λ h. let q = (room.1.members x).0 h in ((row.members x).1 q.0, q.1),
            λ q. (room.1.members x).1 ((row.members x).0 q.0, q.1),
          );
        },
        room.2,
      );
    }

module _ {P : ℕ → Type 0} (codes left cells : List ℕ) (below top c : ℕ) (next : codes ≡ c ∷ left) (was : Merging P (reverse codes) cells below top) where
  abbrev front : List ℕ
  front = take below cells

  abbrev rest : List ℕ
  rest = reverse left

  -- what stands behind the next number
  abbrev behind : List ℕ
  behind = highs c front ++ drop top cells

  is : reverse codes ≡ rest ++ (c ∷ [])
  is = ap reverse next ∙ reverse-append (c ∷ []) left

  in_ahead : (x : ℕ) → Contains rest x ⊎ (c ≡ x) → Contains (reverse codes) x
  in_ahead x (inl h) = rw is (Contains-append_left rest (c ∷ []) x h)
  in_ahead x (inr e) = rw (is, ← e) (Contains-push rest c)

  of_ahead : (x : ℕ) → Contains (reverse codes) x → Contains rest x ⊎ (c ≡ x)
  of_ahead x h = Contains-push_cases rest c x (rw is at h)

  itself : (x : ℕ) → c ≡ x → Contains (c ∷ behind) x
  itself x e = subst (Contains (c ∷ behind)) e (has_head c behind)

  -- what the entry of the next number asks
  pub room_for_next : (Contains (take below cells) c → ⊥) → below < top
  room_for_next new = let h = (was.room.1.members c).1 (in_ahead c (inr refl), new) in omega (arith, was.room.2, h.1)

  below_next : (x : ℕ) → Contains (lows c front) x ⊎ Contains rest x → x < c
  below_next x (inl h) = (low_is c front x h).1
  below_next x (inr h) = parts_apart rest (c ∷ []) (rw is at was.rises) x c h (has_head c [])

  above_next : (y : ℕ) → Contains behind y → c < y
  above_next y h = elim (Contains-append_cases (highs c front) (drop top cells) y h) [
    | inl l ↦ (high_is c front y l).1
    | inr r ↦ was.apart c y (inr (in_ahead c (inr refl))) r
  ]

  members_now : (x : ℕ) → P x ↔ ((Contains (lows c front) x ⊎ Contains rest x) ⊎ Contains (c ∷ behind) x)
  members_now x = (
    λ q. elim ((was.members x).0 q) [
      | inl f ↦ elim f [
        | inl h ↦ elim (cut_cases c front x h) [
          | inl l ↦ inl (inl l)
          | inr r ↦ inr (elim r [ inl e ↦ itself x e | inr g ↦ has_tail c behind (Contains-append_left (highs c front) (drop top cells) x g) ])
        ]
        | inr h ↦ elim (of_ahead x h) [ inl l ↦ inl (inr l) | inr e ↦ inr (itself x e) ]
      ]
      | inr h ↦ inr (has_tail c behind (Contains-append_right (highs c front) (drop top cells) x h))
    ],
    λ q. (was.members x).1 (elim q [
      | inl f ↦ inl (elim f [ inl h ↦ inl (low_is c front x h).0 | inr h ↦ inr (in_ahead x (inl h)) ])
      | inr h ↦ elim (has_cases c behind h) [
        | inl e ↦ inl (inr (in_ahead x (inr e)))
        | inr k ↦ elim (Contains-append_cases (highs c front) (drop top cells) x k) [ inl l ↦ inl (inl (high_is c front x l).0) | inr r ↦ inr r ]
      ]
    ]),
  )

  -- those that need a cell, where the next stands in the row already, and where it does not
  room_if_old : Contains front c → Count (λ x. Contains rest x × (Contains (lows c front) x → ⊥)) (top - below)
  room_if_old old = (
    was.room.0,
    record {
      ascends = was.room.1.ascends;
      members = λ x. (
        λ h. let q = (was.room.1.members x).0 h in (elim (of_ahead x q.0) [ inl l ↦ l | inr e ↦ absurd (q.1 (subst (Contains front) e old)) ], λ k. q.1 (low_is c front x k).0),
        λ q. (was.room.1.members x).1 (in_ahead x (inl q.0), λ k. q.1 (is_low c front x k (below_next x (inr q.0)))),
      );
    },
    was.room.2,
  )

  room_if_new : (Contains front c → ⊥) → Count (λ x. Contains rest x × (Contains (lows c front) x → ⊥)) (top - below - 1)
  room_if_new new =
      let row = was.room.1 in
      let top_is : (x : ℕ) → Contains was.room.0 x → x ≤ c = λ x h. elim (of_ahead x ((row.members x).0 h).0) [ inl l ↦ omega (arith, below_next x (inr l)) | inr e ↦ omega arith ] in
      let parts = largest_last c was.room.0 row.ascends ((row.members c).1 (in_ahead c (inr refl), new)) top_is in (
        lows c was.room.0,
        record {
          ascends = lows_ascend c was.room.0 row.ascends;
          members = λ x. (
            λ h.
                let k = low_is c was.room.0 x h in
                let q = (row.members x).0 k.0 in
                (elim (of_ahead x q.0) [ inl l ↦ l | inr e ↦ absurd (omega (arith, k.1)) ], λ l. q.1 (low_is c front x l).0),
            λ q.
                let l = below_next x (inr q.0) in
                is_low c was.room.0 x ((row.members x).1 (in_ahead x (inl q.0), λ k. q.1 (is_low c front x k l))) l,
          );
        },
        omega (arith, was.room.2, ap length parts, length_push (lows c was.room.0) c),
      )

  -- one more is entered
  pub merging_more : (cells' : List ℕ) (stay at : ℕ) → length cells' ≡ length cells → Placing cells cells' below top c stay at → Merging P rest cells' stay at
  merging_more cells' stay at long p = record {
    within = omega (arith, ap length p.back, length-drop at cells');
    behind = elim p.gap [ inl g ↦ omega (arith, g.1, was.behind) | inr g ↦ omega (arith, g.1, room_for_next g.0) ];
    rises = ascending_front rest (c ∷ []) (rw is at was.rises);
    front = rw p.front (lows_ascend c front was.front);
    back = rw p.back (ascending_cons c behind (ascending_append (highs c front) (drop top cells) (highs_ascend c front was.front) was.back
        (λ x y h k. was.apart x y (inl (high_is c front x h).0) k)) above_next);
    apart = rw (p.front, p.back) (λ x y h k. elim (has_cases c behind k) [ inl e ↦ omega (arith, below_next x h) | inr l ↦ omega (arith, below_next x h, above_next y l) ]);
    members = rw (p.front, p.back) members_now;
    room = rw p.front (elim p.gap [
      | inl g ↦ let e : top - below ≡ at - stay = omega (arith, g.1, was.behind) in rw e at (room_if_old g.0)
      | inr g ↦ let e : top - below - 1 ≡ at - stay = omega (arith, g.1, was.behind) in rw e at (room_if_new g.0)
    ]);
  }

-- none is ahead
pub merging_all : {P : ℕ → Type 0} {cells : List ℕ} {below top : ℕ} → Merging P [] cells below top → RowOf P cells
merging_all {P} {cells} {below} {top} was =
    let none : length was.room.0 ≤ 0 = row_within was.room.0 [] was.room.1.ascends (λ x h. ((was.room.1.members x).0 h).0) in
    let closed : top ≡ below = omega (arith, was.behind, was.room.2) in
    let whole : take below cells ++ drop top cells ≡ cells = ap (λ n. take below cells ++ drop n cells) closed ∙ take-append-drop below cells in
    subst (RowOf P) whole (record {
      ascends = ascending_append (take below cells) (drop top cells) was.front was.back (λ x y h k. was.apart x y (inl h) k);
      members = λ x. (
        λ h. (was.members x).1 (elim (Contains-append_cases (take below cells) (drop top cells) x h) [ inl l ↦ inl (inl l) | inr r ↦ inr r ]),
        λ q. elim ((was.members x).0 q) [
          | inl f ↦ elim f [ inl h ↦ Contains-append_left (take below cells) (drop top cells) x h | inr h ↦ absurd (has_none h) ]
          | inr h ↦ Contains-append_right (take below cells) (drop top cells) x h
        ],
      );
    })

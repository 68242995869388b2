use Rattle.std.proofs.Common.{◌≡◌, ◌<◌, length, set, get_or, ap, ◌∙◌, subst, arith, below_more, rules}
use Rattle.std.specs.List.{Contains, refill}
use Rattle.std.proofs.lemmas.List.Elements.{Contains-get_or, All-set}
use Rattle.std.proofs.lemmas.Grind.{common_steps}
use Rattle.std.proofs.lemmas.List.{get_or-set_same, get_or-set_other, get_or_default}
use Rattle.table.specs.Descent.{row_left, to_come, lows, IsInPlace}
use Rattle.table.proofs.Few.{has_flat_map}
use Rattle.table.proofs.Descents.{largest_first, all_passed}
use Rattle.table.proofs.descent.DescentIterator.next.Goals as goal

pub pass-requires-clause-largest : goal.pass-requires-clause-largest
pass-requires-clause-largest g c d h =
    let m = g.B.Book.meaning c.args.self.now.book.now in
    let qs = c.args.self.now.cursors.items in
    let i = c.loop-cursor.cursor-index in
    let lt : i < length qs = omega (arith, ap length c.deref_mut-cursor-items.ensures.value) in
    let same = c.loop-cursor.invariant.others i _ (omega arith) in
    c.in_ok-code.ensures.1 d (has_flat_map (row_left m) qs (get_or qs i _) d (Contains-get_or qs i _ lt) (subst (λ q. Contains (row_left m q) d) same h))

pub loop-cursor-preserved : goal.loop-cursor-preserved
loop-cursor-preserved g c =
    let m = g.B.Book.meaning c.args.self.now.book.now in
    let qs = c.args.self.now.cursors.items in
    let ts = c.loop-cursor.cursor-items in
    let i = c.loop-cursor.cursor-index in
    let q = c.pass.new.self in
    let code = c.in_ok-code.code in
    let inv = c.loop-cursor.invariant in
    let lt : i < length qs = omega (arith, ap length c.deref_mut-cursor-items.ensures.value) in
    record {
      in_place = All-set (IsInPlace m) ts i q c.pass.ensures.place inv.in_place;
      passed = λ k d. below_more (λ k. row_left m (get_or (set ts i q) k d) ≡ lows code (row_left m (get_or qs k d))) i
          (λ k h. ap (row_left m) (get_or-set_other ts i k q d (λ e. omega arith)) ∙ inv.passed k d h)
          (ap (row_left m) (get_or-set_same ts i q d (omega arith)) ∙ c.pass.ensures.row ∙ ap (λ t. lows code (row_left m t)) (inv.others i _ (omega arith) ∙ get_or_default qs i _ d lt)) k;
      others = λ k d h. get_or-set_other ts i k q d (λ e. omega arith) ∙ inv.others k d (omega arith);
    }

pub returns-clause-steps : goal.returns-clause-steps
returns-clause-steps g c =
    let m = g.B.Book.meaning c.args.self.now.book.now in
    let qs = c.args.self.now.cursors.items in
    let ts = c.loop-cursor.cursor-items in
    let same : length ts ≡ length qs = omega (arith, ap length c.deref_mut-cursor-items.ensures.value) in
    let full : refill (length qs) qs ts ≡ ts = grind (arith, common_steps) in
    let passed = all_passed m c.in_ok-code.code qs ts same (λ k d h. c.loop-cursor.invariant.passed k d (omega arith)) in
    rw (full, passed) (largest_first (to_come m qs) c.in_ok-code.code c.in_ok-code.ensures)

pub returns-clause-goes : goal.returns-clause-goes
returns-clause-goes g c = let e = ap length (returns-clause-steps g c) in search rules

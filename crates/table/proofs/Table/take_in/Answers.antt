use Rattle.std.proofs.Common.{length, refl, ap, arith, rules}
use Rattle.std.proofs.lemmas.Fn.{filter_same}
use Rattle.std.proofs.lemmas.List.Sums.{length-filter}
use Rattle.std.proofs.lemmas.Result.{err_from_is_err_and}
use Rattle.table.specs.Checks.{stays}
use Rattle.table.specs.View.{facts_of}
use Rattle.table.proofs.Cells.{same_used, keeps_on}
use Rattle.table.proofs.Deliveries.{refused_full, comes_to_staying, delivered, so_many_come}
use Rattle.table.proofs.Table.take_in.Goals as goal

pub returns-in_err-check_room-clause-facts : goal.returns-in_err-check_room-clause-facts
returns-in_err-check_room-clause-facts g c =
    let p = err_from_is_err_and c.from_residual-in_err-check_room.result c.from_residual-in_err-check_room.ensures.1 in
    let d = c.in_ok-delivery.delivery in
    let same = c.in_ok-delivery.ensures.same in
    rw (p.1, p.2, ← same.0, ← same.1)
    (refused_full _ _ (g.met.B.Book.lawful d.list.book.now) _ _ d.peace c.args.self.now.ascends _ _ _ (record { short = d.list.short; known = d.list.known }) (rw c.facts.ensures.held at c.coming-come.ensures.number) c.in_err-check_room.ensures, refl)

pub enter-requires-clause-come : goal.enter-requires-clause-come
enter-requires-clause-come g c =
    let d = c.in_ok-delivery.delivery in
    rw (filter_same _ (stays (g.B.Book.meaning d.list.book.now) d.list.facts.now) _ (λ x b f' k. search rules) _ _ c.retain-gone.ensures.stay)
    (comes_to_staying _ _ (g.met.B.Book.lawful d.list.book.now) _ _ d.peace c.args.self.now.ascends _ (rw c.facts.ensures.held at c.coming-come.ensures.number))

pub enter-requires-clause-room : goal.enter-requires-clause-room
enter-requires-clause-room g c =
    let d = c.in_ok-delivery.delivery.list in
    let p = stays (g.B.Book.meaning d.book.now) d.facts.now in
    omega (
      arith,
      c.in_ok-check_room.ensures,
      ap length (filter_same _ p _ (λ x b f' k. search rules) _ _ c.retain-gone.ensures.stay),
      length-filter p (facts_of c.args.self.now),
      same_used c.args.self.now c.retain-gone.new.self c.retain-gone.ensures.cells (omega arith),
    )

pub returns-clause-facts : goal.returns-clause-facts
returns-clause-facts g c =
    let d = c.in_ok-delivery.delivery in
    let same = c.in_ok-delivery.ensures.same in
    rw (← same.0, ← same.1)
    (so_many_come (delivered _ _ (g.met.B.Book.lawful d.list.book.now) _ _ d.peace c.args.self.now.ascends _ _ _ _ _ (record { short = d.list.short; known = d.list.known }) (rw c.facts.ensures.held at c.coming-come.ensures.number) c.in_ok-check_room.ensures
    (filter_same _ (stays (g.B.Book.meaning d.list.book.now) d.list.facts.now) _ (λ x b f' k. search rules) _ _ c.retain-gone.ensures.stay) c.retain-gone.ensures.gone c.enter.ensures.facts c.enter.ensures.number) (omega arith))

pub returns-clause-cells : goal.returns-clause-cells
returns-clause-cells g c = keeps_on _ _ c.retain-gone.ensures.cells (omega arith) _ c.enter.ensures.cells

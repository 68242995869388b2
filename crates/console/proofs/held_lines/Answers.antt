use Rattle.std.proofs.Common.{◌∙◌, ap}
use Rattle.std.proofs.lemmas.Iterator.{YieldsList-from_slice}
use Rattle.std.proofs.lemmas.Iterator.Consumers.{YieldsList-from_copied}
use Rattle.std.specs.Slice.Iter.{iter_rest}
use Rattle.table.specs.View.{facts_of}
use Rattle.console.proofs.FactLines.{listing_of}
use Rattle.console.proofs.held_lines.Goals as goal

pub returns : goal.returns
returns c = listing_of c.listing.result c.listing.ensures (YieldsList-from_copied (YieldsList-from_slice (facts_of c.args.table.now) (ap iter_rest c.copied.ensures.source ∙ c.iter.ensures.rest ∙ c.facts.ensures.held)))

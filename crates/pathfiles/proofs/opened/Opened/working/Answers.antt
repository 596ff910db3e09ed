use Rattle.std.proofs.Common.{sym, ◌∙◌}
use Rattle.std.proofs.lemmas.Iterator.Adapters.{option_map_id}
use Rattle.pathfiles.proofs.Says.{working-said}
use Rattle.pathfiles.proofs.opened.Opened.working.Goals as goal

pub returns-clause-said : goal.returns-clause-said
returns-clause-said g c = λ f e. sym (option_map_id c.item.result) ∙ c.item.ensures ∙ working-said g.K.Filed.kind c.args.self.now c.args.i f e

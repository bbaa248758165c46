use Rattle.tables.proofs.Completing.{complete}
use Rattle.tables.proofs.chains.walk_chains.Goals as goal

pub returns : goal.returns
returns c = complete _ _ _ c.in_ok-walk.ensures c.requires _ c.in_ok-home.ensures

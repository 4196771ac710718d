-- The laws of the listing and the search. Assumes nothing.
use Rattle.names.specs.Laws.{NameLaws}
use Rattle.names.proofs.FuelLaws.{files_rule, folders_rule, folder_rule}
use Rattle.names.proofs.ChainLaws.{chain_rule}
use Rattle.names.proofs.ReachLaws.{listing_complete}

pub laws_hold : NameLaws
laws_hold s level4 stands = record {
  complete = listing_complete s level4 stands;
  folder = folder_rule s level4 stands;
  files_from = files_rule s level4 stands;
  folders_from = folders_rule s level4 stands;
  chain_from = chain_rule s level4 stands;
}

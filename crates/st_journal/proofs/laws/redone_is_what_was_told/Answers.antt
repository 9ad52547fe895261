use Rattle.st_journal.proofs.GoingOn as going
use Rattle.st_journal.proofs.Recovered as recovered
use Rattle.st_journal.proofs.WhatTells as telling
use Rattle.st_journal.proofs.laws.redone_is_what_was_told.Goals as goal

pub returns : goal.returns
returns c = record {
  telling = telling.telling_tells;
  redone = recovered.recovered c.one_reading.ensures;
  beside = going.goes_on;
  image = recovered.comes_to_the_image c.one_reading.ensures;
}

use Rattle.st_journal.proofs.LedBack as led
use Rattle.st_journal.proofs.laws.crashes_lead_back.Goals as goal

pub returns-clause-lines : goal.returns-clause-lines
returns-clause-lines c = led.lead_back c.one_reading.ensures

pub returns-clause-batches : goal.returns-clause-batches
returns-clause-batches c = led.crashes_lead_back c.one_reading.ensures

pub returns-clause-batch : goal.returns-clause-batch
returns-clause-batch c = led.crash_leads_back c.one_reading.ensures

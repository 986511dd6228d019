-- By the steps, one after the other, and by the call.
use Rattle.meter_world.proofs.Leads.{steps_lead}
use Rattle.meter_world.proofs.LeadsIn.{steps_lead_in}
use Rattle.meter_world.proofs.Lacking.{requests_are_exact}
use Rattle.meter_world.proofs.laws.meter_law.Goals as goal

pub returns-clause-leads : goal.returns-clause-leads
returns-clause-leads c = steps_lead

pub returns-clause-leads_in : goal.returns-clause-leads_in
returns-clause-leads_in c = steps_lead_in

pub returns-clause-requests : goal.returns-clause-requests
returns-clause-requests c = requests_are_exact

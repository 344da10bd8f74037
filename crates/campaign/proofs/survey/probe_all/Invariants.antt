use Rattle.campaign.proofs.Rising.{Below}
use Rattle.campaign.proofs.survey.probe_all.Given as goal

abbrev pub invariant-loop-bus : goal.invariant-loop-bus
invariant-loop-bus g l = Below (g.S.Source.facts l.initial.source) l.step l.bus (g.S.Source.facts l.source) l.campaign

-- The law, at the diagram of the index.
use Rattle.vg_agree.proofs.Simulation.{agrees}
use Rattle.vg_agree.proofs.diagrams.agreement.Goals as goal

pub returns : goal.returns
returns g c = λ i commutes. agrees (g.D.Diagrams.diagram i) commutes

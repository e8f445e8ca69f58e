-- Each call stands behind those before it.
use Rattle.vg_gen.specs.ModuleText.{call}
use Rattle.vg_gen.proofs.Texts.{begun, grown}
use Rattle.vg_gen.proofs.text.push_main.Goals as goal

pub loop-k-init : goal.loop-k-init
loop-k-init c = begun call _

pub loop-k-preserved : goal.loop-k-preserved
loop-k-preserved c = grown call c.loop-k.k _ _ _ c.loop-k.invariant c.in_ok-push_call.ensures

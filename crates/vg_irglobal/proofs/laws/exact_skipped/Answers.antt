-- By the trees of items.
use Rattle.vg_irglobal.proofs.SkippedExact.{source_filename_exact, target_exact}
use Rattle.vg_irglobal.proofs.laws.exact_skipped.Goals as goal

pub returns-clause-source_filenames : goal.returns-clause-source_filenames
returns-clause-source_filenames c = source_filename_exact

pub returns-clause-targets : goal.returns-clause-targets
returns-clause-targets c = target_exact

use Rattle.probing.proofs.Settings.{zeros_are_settings}
use Rattle.sources.proofs.settings.Settings.new.Goals as goal

pub invariant_of-result : goal.invariant_of-result
invariant_of-result c = record { kept = zeros_are_settings 64 }

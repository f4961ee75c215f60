use Rattle.spec_client_go.specs.ReadFrames.{lines, rest}
use Rattle.framing.proofs.Reading.{fault_of_lines}
use Rattle.framing.proofs.laws.faults_are_lines.Goals as goal

pub returns : goal.returns
returns c = λ bytes. fault_of_lines (lines bytes) (rest bytes)

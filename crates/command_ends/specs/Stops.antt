-- The status of each way to stop without a text.
use Rattle.std.specs.Prelude.{ℕ}
use Rattle.edge_reader.specs.declared.fault.EdgeFault.{EdgeFault}
use Rattle.edge_reader.specs.declared.fault.EdgeFault.TheVariants as fault
use Rattle.command_ends.specs.declared.stop.Stop.{Stop}
use Rattle.command_ends.specs.declared.stop.Stop.TheVariants as stop

-- a fault of the input
abbrev pub fault_status : EdgeFault → ℕ
fault_status (fault.Missing line) = 3
fault_status (fault.BadId line) = 3
fault_status (fault.BadWeight line) = 3
fault_status fault.TooManyVertices = 5
fault_status fault.TooManyEdges = 5
fault_status fault.TooLong = 5
fault_status fault.ReadFault = 6
fault_status fault.Memory = 11

-- any stop
abbrev pub stop_status : Stop → ℕ
stop_status stop.BadWords = 2
stop_status stop.NeedsSource = 2
stop_status stop.TakesNoSource = 2
stop_status (stop.Program what) = 4
stop_status (stop.Refused why) = 4
stop_status stop.ClassNotBuilt = 4
stop_status (stop.Input what) = fault_status what
stop_status (stop.UnknownSource id) = 12
stop_status (stop.Frame at what) = 13
stop_status stop.TooManyFrameBytes = 5
stop_status stop.WriteFault = 7
stop_status stop.Memory = 11

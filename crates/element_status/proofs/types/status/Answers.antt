use Rattle.element.specs.Types.{verdict_of}
use Rattle.element.specs.Status.{status_bytes, entry_by, shown_by}
use Rattle.element_status.proofs.types.status.Goals as goal

pub returns-in-Cooling : goal.returns-in-Cooling
unfolding status_bytes shown_by entry_by verdict_of
returns-in-Cooling c = rw c.in-Cooling.is c.fan.ensures

pub returns-in-Temperature : goal.returns-in-Temperature
unfolding status_bytes shown_by entry_by verdict_of
returns-in-Temperature c = rw c.in-Temperature.is c.temperature.ensures

pub returns-in-Voltage : goal.returns-in-Voltage
unfolding status_bytes shown_by entry_by verdict_of
returns-in-Voltage c = rw c.in-Voltage.is c.voltage.ensures

pub returns-in-Current : goal.returns-in-Current
unfolding status_bytes shown_by entry_by verdict_of
returns-in-Current c = rw c.in-Current.is c.current.ensures

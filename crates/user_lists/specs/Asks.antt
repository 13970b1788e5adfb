-- An access of a list as the code has it, and as the definition of the call has it.
use Rattle.machine.specs.Lists.{Asked}
use Rattle.user_lists.specs.declared.Ask.{Ask}

abbrev pub ask_of : Ask → Asked
ask_of k = record { process = k.process; access = k.access; address = k.address }

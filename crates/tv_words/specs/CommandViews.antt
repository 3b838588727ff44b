-- The command that a `Command` stands for.
use Rattle.tv_words.specs.Commands as spec
use Rattle.tv_words.specs.declared.command.Command.{Command}
use Rattle.tv_words.specs.declared.command.Command.TheVariants.{Run, Check, Trace, Lineage, Forward, Upgrade, Gen}

abbrev pub command_view : Command → spec.Command
command_view (Run workers) = spec.run workers
command_view Check = spec.check
command_view Trace = spec.trace
command_view (Lineage port place) = spec.lineage port place
command_view (Forward port place) = spec.forward port place
command_view Upgrade = spec.upgrade
command_view (Gen number workers) = spec.gen number workers

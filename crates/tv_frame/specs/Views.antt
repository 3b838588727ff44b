-- What a contract sees of levels.
use Rattle.tv_frame.specs.Levels as levels
use Rattle.tv_frame.specs.Levels.{closed, came}
use Rattle.tv_frame.specs.declared.level.Level.{Level}
use Rattle.tv_frame.specs.declared.level.What.{What}
use Rattle.tv_frame.specs.declared.level.What.TheVariants.{Closed, Passed}

abbrev pub what_view : What → levels.What
what_view (Closed n) = closed n
what_view (Passed k) = came k

abbrev pub level_view : Level → levels.Level
level_view l = record { step = l.step; place = l.place; what = what_view l.what }

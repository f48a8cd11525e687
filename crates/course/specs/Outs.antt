-- The outs on a stack. Assumes nothing.
--
--   no_out   the out that stands past the end of a list
use Rattle.course.specs.declared.environment.Out.{Out}

abbrev pub no_out : Out
no_out = record { node = 0; marker = 0 }

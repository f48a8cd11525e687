-- A raw place, read as a form. Assumes nothing.
--
--   read r        the form that the letter of the raw place r names, with the fields that it has;
--                 none where the letter is no form's
--   or_zero o     the form o, or a Zero where there is none
--   form_read r   the form that r names, a Zero where the letter is no form's
use Rattle.std.specs.Prelude.{cond, Some, None, Option, ◌==◌}
use Rattle.expression.specs.declared.form.Form.{Form}
use Rattle.expression.specs.declared.form.Form.TheVariants.{Zero, Node, Edge, Union, Mark, Out, Disjoint, Append, Graph, If, Recursion}
use Rattle.expression.specs.declared.raw.RawPlace.{RawPlace}

-- each form by its one capital letter, given by its code: A D E G I M N O R U Z
abbrev pub read : RawPlace → Option Form
read r =
    cond (r.letter == 65) (Some (Append r.part r.other_part))
    (cond (r.letter == 68) (Some (Disjoint r.part r.other_part))
    (cond (r.letter == 69) (Some (Edge r.term r.part))
    (cond (r.letter == 71) (Some (Graph r.number))
    (cond (r.letter == 73) (Some (If r.term r.other_term r.part r.other_part))
    (cond (r.letter == 77) (Some (Mark r.number r.part))
    (cond (r.letter == 78) (Some Node)
    (cond (r.letter == 79) (Some (Out r.number))
    (cond (r.letter == 82) (Some (Recursion r.part r.other_part))
    (cond (r.letter == 85) (Some (Union r.part r.other_part))
    (cond (r.letter == 90) (Some Zero)
    None))))))))))

abbrev pub or_zero : Option Form → Form
or_zero (Some form) = form
or_zero None = Zero

abbrev pub form_read : RawPlace → Form
form_read r = or_zero (read r)

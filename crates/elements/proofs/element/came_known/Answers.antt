-- `came_known` is how an element with a place came: its row's length, and the verdict by whether the row takes it.
-- By what the two functions that it calls answer.
use Rattle.elements.proofs.element.came_known.Goals as goal

pub returns : goal.returns
returns c = rw (c.judge.ensures, c.fit_of-fit.ensures)

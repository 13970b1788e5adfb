-- `of_protect` is what `of_page` gives of its deed.
use Rattle.visits.proofs.of_protect.Goals as goal

pub returns : goal.returns
returns c = c.of_page.ensures

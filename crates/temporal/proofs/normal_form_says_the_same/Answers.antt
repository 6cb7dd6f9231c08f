use Rattle.temporal.proofs.normal_form_says_the_same.Goals as goal
use Rattle.temporal.proofs.Normal.{says_true, says_false, normal_fine, fine_ordered}

pub returns : goal.returns
returns c = record {
  says = λ σ t w o. (says_true σ w t o, says_false σ w t o);
  fine = λ ne ns w h. (fine_ordered ne ns w h, λ b. normal_fine ne ns w b h);
}

use Rattle.tv_stream.proofs.Mapped.{arrive-below_value, close-below_value, whole-is_value}
use Rattle.tv_stream.proofs.laws.trees_of_values.Goals as goal

pub returns : goal.returns
returns g c = record {
  arrival = λ f q x r v. arrive-below_value f q x r v;
  close = λ f q n r v m us. close-below_value f q n r v m us;
  whole = λ f r v. whole-is_value f r v;
}

use Rattle.std.proofs.Common.{arith}
use Rattle.cmr_unimodular.proofs.tools.regular.signing_of.Goals as goal

pub prove-unreachable-requires : goal.prove-unreachable-requires
prove-unreachable-requires c = let h = c.in_ok-signed.ensures.support.height_same in omega (arith, c.rows-rows.ensures.rows, c.rows-signed_rows.ensures.rows)

pub returns : goal.returns
returns c =
    let signing = c.in_ok-signed.ensures.signed in (
      signing.0,
      record {
        binary = c.requires;
        matrix = c.rows-rows.ensures.shape;
        signed_matrix = c.rows-signed_rows.ensures.shape;
        by_camion = signing.1;
        one_support = c.in_ok-signed.ensures.support;
        chain = signing.2 c.requires;
      },
    )

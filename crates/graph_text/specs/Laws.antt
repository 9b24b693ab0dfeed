-- Laws about graph texts and the matrices of networks.
use Rattle.std.specs.Prelude.{◌≡◌, Result}
use Rattle.cmr_base.specs.declared.network.Network.{Network}
use Rattle.cmr_base.specs.Matrix.{Matrix, height, IsMatrix}
use Rattle.cmr_base.specs.Trees.{IsBinary, Reproduces, ReproducesSupport}
use Rattle.text_fields.specs.TextWords.{Text}
use Rattle.text_fields.specs.Reading.{Fault}
use Rattle.graph_text.specs.declared.error.GraphKind.{GraphKind}
use Rattle.graph_text.specs.declared.read.SizedNetwork.{SizedNetwork}
use Rattle.graph_text.specs.GraphReading.{IsGraph}

abbrev pub ReadingsAreOne : Type 0
ReadingsAreOne = (text : Text) (one two : Result SizedNetwork (Fault GraphKind)) → IsGraph text one → IsGraph text two → one ≡ two

abbrev pub MatricesAreOne : Type 0
MatricesAreOne = (net : Network) (m n : Matrix) → IsMatrix m → IsMatrix n → height m ≡ height n → m.width ≡ n.width → Reproduces net m → Reproduces net n → m ≡ n

abbrev pub BinaryMatricesAreOne : Type 0
BinaryMatricesAreOne = (net : Network) (m n : Matrix) → IsMatrix m → IsMatrix n → height m ≡ height n → m.width ≡ n.width → IsBinary m → IsBinary n
    → ReproducesSupport net m → ReproducesSupport net n → m ≡ n

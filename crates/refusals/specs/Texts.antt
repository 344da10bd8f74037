-- How a layer and a refusal are told in words.
use Rattle.std.specs.Prelude.{ℕ, List, ◌++◌, codes, decimal}
use Rattle.refusals.specs.declared.Layer.{Layer}
use Rattle.refusals.specs.declared.Layer.TheVariants.{File, Source, Campaign, Drawing}
use Rattle.refusals.specs.declared.Refusal.{Refusal}

abbrev pub layer_name : Layer → List ℕ
layer_name File = codes "file"
layer_name Source = codes "source"
layer_name Campaign = codes "campaign"
layer_name Drawing = codes "drawing"

-- a refusal in a line; its numbers are in base ten without leading zeros
abbrev pub refusal_told : Refusal → List ℕ
refusal_told r = codes "refusal " ++ (decimal r.number ++ (codes ", layer " ++ (layer_name r.layer ++ (codes ", place " ++ decimal r.place))))

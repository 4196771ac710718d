pub mod SizeLaws
pub mod ImageLaws
pub mod StoreLaws
pub mod HashLaws
pub mod FillLaws
pub mod MakeLaws

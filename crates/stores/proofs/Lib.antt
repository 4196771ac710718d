pub mod OwnLaws
mod CodeLaws
